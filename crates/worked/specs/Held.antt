-- Which cases a caller can lend: every weight is an f64, every end and every word of a constraint a u16, every start value a byte. Assumes nothing.
use Rattle.std.specs.Prelude.{ℕ, Bool, true, ◌&&◌, List, [], ◌∷◌, ltb}
use Rattle.std.specs.Float.{binary64}
use Rattle.std.specs.Float.Ieee.{fits}
use Rattle.field.specs.Field.{Field}
use Rattle.worked.specs.Cases.{Case, closes, completes, preprocesses, rounds, probes_one, probes_fast, probes_all, probes_some, compares, anchors_at, propagates, argues, refuses, explains, explains_none, reduces, lacks_room, keeps, keeps_none, mends, overflows, lacks_report, allows, lacks_places}
use Rattle.kept.specs.Operations.{Operation, pin, release}

-- every element passes
unfoldable pub every : {A : Type 0} → (A → Bool) → List A → Bool
every p [] = true
every p (x ∷ l) = p x && every p l

-- Whether a caller can lend the field: its weights are f64, and its rows and columns u16.
abbrev pub held_field : Field → Bool
held_field F =
    every (fits binary64) F.linear && every (fits binary64) F.quad && every (λ i. ltb i 65536) F.rows && every (λ i. ltb i 65536) F.cols

-- Whether a caller can lend these start values: each is a byte.
abbrev pub held_bytes : List ℕ → Bool
held_bytes s = every (λ v. ltb v 256) s

-- Whether a caller can ask for the operation: its variable is a u16, and its value a byte.
abbrev pub held_operation : Operation → Bool
held_operation (pin i v) = ltb i 65536 && ltb v 256
held_operation (release i) = ltb i 65536

-- what a case gives its call
unfoldable pub held : Case → Bool
held (closes F g s t flat) = held_field F && held_bytes s
held (completes F g s t) = held_field F && held_bytes s
held (preprocesses F g s t) = held_field F && held_bytes s
held (rounds F g s t) = held_field F && held_bytes s
held (probes_one F g s i v t) = held_field F && held_bytes s && ltb i 65536 && ltb v 256
held (probes_fast F g s i v t) = held_field F && held_bytes s && ltb i 65536 && ltb v 256
held (probes_all F g s t k) = held_field F && held_bytes s
held (probes_some F g s limit t k) = held_field F && held_bytes s
held (compares F g s k items examined) = held_field F && held_bytes s
held (anchors_at F g s least l) = held_field F && held_bytes s
held (propagates s k r t) = held_bytes s && every (λ w. ltb w 65536) k
held (argues s k) = held_bytes s && every (λ w. ltb w 65536) k
held (refuses F r) = held_field F
held (explains F s i g k l) = held_field F && held_bytes s
held (explains_none F s i r) = held_field F && held_bytes s
held (reduces F g s G k b) = held_field F && held_bytes s
held (lacks_room F s l) = held_field F && held_bytes s
held (keeps F s os ns K flat l) = held_field F && held_bytes s && every held_operation os
held (keeps_none F s r) = held_field F && held_bytes s
held (mends F g G l) = held_field F
held (overflows F) = held_field F
held (lacks_report F l) = held_field F && every (λ w. ltb w 65536) l
held (allows n k r a c) = every (λ w. ltb w 65536) k
held (lacks_places n k a c) = every (λ w. ltb w 65536) k
