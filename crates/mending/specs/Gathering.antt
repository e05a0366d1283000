-- One pass over the entries place by place: the places, their sums, and what becomes of each entry. Assumes nothing.
use Rattle.std.specs.Prelude.{ℕ, ◌+◌, ◌*◌, ◌-◌, ◌<◌, ◌≤◌, ◌≡◌, Bool, false, cond, List, [], ◌∷◌, ◌++◌, map, eqb, ltb, length, get_or, set, Float}
use Rattle.std.specs.Float.{nan, binary64}
use Rattle.std.specs.Float.Ieee.{add}
use Rattle.scratch.specs.Region.{region}
use Rattle.field.specs.Field.{Field, entries, quad_of}
use Rattle.field.specs.Faults.{Listed}
use Rattle.mending.specs.Places.{is_inside, all_places, place_of, sum_at, places_of, is_empty}
use Rattle.mending.specs.Changes.{position_of, is_first}

-- The mark of an entry that is dropped: kind 0, and 65,535 for the output position that it has not.
abbrev pub dropped_mark : ℕ
dropped_mark = 65535

-- The mark of the first entry of its place, whose output position is o: 65,536 and o.
abbrev pub first_mark : ℕ → ℕ
first_mark o = 65536 + o

-- The mark of an entry joined to an earlier one of its place, at output position o: 131,072 and o.
abbrev pub joined_mark : ℕ → ℕ
joined_mark o = 131072 + o

-- dropped; or first of its place, and so moved unless its position is kept; or joined
unfoldable pub mark_of : Field → ℕ → ℕ
mark_of F k =
    let o = position_of F (place_of F k) in
    cond (is_inside F k) (cond (is_first F k) (first_mark o) (joined_mark o)) dropped_mark

-- the places so far, their sums, and a mark for each entry
pub record Gathered : Type 0 where
  pub places : List ℕ
  pub sums : List Float
  pub marks : List ℕ

-- What is gathered so far, made of the places, their sums and the marks of the entries.
abbrev pub gathered : List ℕ → List Float → List ℕ → Gathered
gathered ps ss ms = record { places = ps; sums = ss; marks = ms }

-- the last of the places is p
unfoldable pub is_last_of : ℕ → List ℕ → Bool
is_last_of p ps = cond (is_empty ps) false (eqb (get_or ps (length ps - 1) 0) p)

-- What is gathered after entry e: it is dropped, joined to the last place, or the first of a new one.
unfoldable pub take_one : Field → Gathered → ℕ → Gathered
take_one F g e =
    let p = place_of F e in
    let o = length g.places in
    cond (ltb p (all_places F))
    (cond (is_last_of p g.places)
    (gathered g.places (set g.sums (o - 1) (add binary64 (get_or g.sums (o - 1) nan) (quad_of F e))) (set g.marks e (joined_mark (o - 1))))
    (gathered (g.places ++ p ∷ []) (g.sums ++ quad_of F e ∷ []) (set g.marks e (first_mark o))))
    (gathered g.places g.sums (set g.marks e dropped_mark))

-- What is gathered after each of these entries, one after another.
unfoldable pub take_all_of : Field → Gathered → List ℕ → Gathered
take_all_of F g [] = g
take_all_of F g (e ∷ l) = take_all_of F (take_one F g e) l

-- ---- in scratch: places from word m on, marks from word 2m on, sums from float m on

-- What is gathered as it stands in the scratch of m entries, of which o places are found.
abbrev pub gathered_in : ℕ → ℕ → List Float → List ℕ → Gathered
gathered_in m o f u = gathered (region m o u) (region m o f) (region (2 * m) m u)

-- What taking one entry needs: lists of one length, an entry, and room for one place more.
pub record Takable (F : Field) (e o : ℕ) (f : List Float) (u : List ℕ) : Type 0 where
  pub listed : Listed F
  pub entry : e < entries F
  pub few : o < entries F
  pub floats : 4 * entries F + 16 ≤ length f
  pub words : 8 * entries F + 16 ≤ length u

-- What taking one entry leaves: the model's step on what is gathered; the sorted words stay.
pub record Taken (F : Field) (e o o' : ℕ) (f f' : List Float) (u u' : List ℕ) : Type 0 where
  pub floats_long : length f' ≡ length f
  pub words_long : length u' ≡ length u
  pub sorted : region 0 (entries F) u' ≡ region 0 (entries F) u
  pub few : o' ≤ o + 1
  pub is : gathered_in (entries F) o' f' u' ≡ take_one F (gathered_in (entries F) o f u) e

-- all is gathered: o places with their sums, and the mark of each entry
pub record Gathers (F : Field) (o : ℕ) (f₀ f : List Float) (u₀ u : List ℕ) : Type 0 where
  pub floats_long : length f ≡ length f₀
  pub words_long : length u ≡ length u₀
  pub few : o ≤ entries F
  pub places : region (entries F) o u ≡ places_of F
  pub sums : region (entries F) o f ≡ map (sum_at F) (places_of F)
  pub marks : (k : ℕ) → k < entries F → get_or u (2 * entries F + k) 0 ≡ mark_of F k
