-- Small components turn on which variables are free, and on the values at the ends of entries. Assumes nothing.
use Prim.Native.Nat.{ℕ, zero, suc, ◌<◌}
use mathlib.Core.Path.{◌≡◌, refl, sym, ap, ◌∙◌, subst}
use mathlib.Core.Logic.{⊎_elim}
use mathlib.Core.Bool.{Bool, true, false, cond}
use mathlib.Core.List.{List, [], ◌∷◌, ◌++◌}
use native.Mathlib.Decide.{ℕ_discrete, dec_lt}
use native.Mathlib.Omega.{arith}
use lib.Dec.{eqb, leb}
use lib.ListN.{length, get_or, set, length-set}
use lib.Seq.{get_or-set_same, get_or-set_other, set_out}
use Rattle.field.specs.Field.{Field, variables, entries, row_end, column_end, Shaped}
use Rattle.places.specs.Places.{places, other_end}
use Rattle.parts.specs.Walk.{Search, search, joins, push, visit, visit_at, visit_all, serve, Walk, turn_on_of, turn, turns, walked_from, walk, members_from, marks_from, Parts, part_at, parts_to, components}
use Rattle.parts.specs.Part.{Joined}
use Rattle.enumeration.specs.Terms.{mask_of, put_to, solved}
use Rattle.enumeration.proofs.Local.{mask_alike}
use Rattle.components.specs.Small.{solved_part, solved_parts, small_parts}

-- a test that comes out the same leads both the same way
same_way : {A : Type 0} (R : A → A → Type 0) {x x' y y' : A} (b c : Bool) → c ≡ b → R x x' → R y y' → R (cond b x y) (cond c x' y')
same_way R true c e p q = rw e p
same_way R false c e p q = rw e q

-- an element set in two lists of one length
set_both : (l m : List ℕ) (t v : ℕ) → length m ≡ length l → (R : ℕ → ℕ → Type 0) → R v v → (j : ℕ) → R (get_or l j 0) (get_or m j 0) → R (get_or (set l t v) j 0) (get_or (set m t v) j 0)
set_both l m t v long R put j same = elim (ℕ_discrete j t) [
  | no n ↦ rw (get_or-set_other m t j v 0 n, get_or-set_other l t j v 0 n) same
  | yes i ↦ elim (dec_lt t (length l)) [
    | yes h ↦ rw (i, get_or-set_same m t v 0 (omega arith), get_or-set_same l t v 0 h) put
    | no h ↦ rw (set_out m t v (omega arith), set_out l t v (omega arith)) same
  ]
]

-- ---- walks over marks that are open alike

-- of one length, and open at the same variables
pub record Alike (marks marks' : List ℕ) : Type 0 where
  pub long : length marks' ≡ length marks
  pub opens : (i : ℕ) → eqb (get_or marks' i 0) 2 ≡ eqb (get_or marks i 0) 2

record Searches (w w' : Search) : Type 0 where
  marks : Alike w.marks w'.marks
  stack : w'.stack ≡ w.stack

record Walks (w w' : Walk) : Type 0 where
  search : Searches w.search w'.search
  members : w'.members ≡ w.members

record Finds (p p' : Parts) : Type 0 where
  marks : Alike p.marks p'.marks
  found : p'.found ≡ p.found

push_alike : (w w' : Search) (j : ℕ) → Searches w w' → Searches (push w j) (push w' j)
unfolding push
push_alike w w' j W = record {
  marks = record {
    long = length-set w'.marks j 0 ∙ W.marks.long ∙ sym (length-set w.marks j 0);
    opens = λ i. set_both w.marks w'.marks j 0 W.marks.long (λ a b. eqb b 2 ≡ eqb a 2) refl i (W.marks.opens i);
  };
  stack = ap (λ (l : List ℕ). j ∷ l) W.stack;
}

module _ (F : Field) (zeros : Bool) where
  visit_alike : (w w' : Search) (j : ℕ) → Searches w w' → Searches (visit w j) (visit w' j)
  unfolding visit
  visit_alike w w' j W = same_way Searches (eqb (get_or w.marks j 0) 2) (eqb (get_or w'.marks j 0) 2) (W.marks.opens j) (push_alike w w' j W) W

  all_alike : (i : ℕ) (ks : List ℕ) (w w' : Search) → Searches w w' → Searches (visit_all F zeros i w ks) (visit_all F zeros i w' ks)
  unfolding visit_all visit_at
  all_alike i [] w w' W = W
  all_alike i (k ∷ ks) w w' W =
      all_alike i ks _ _ (same_way Searches (joins F zeros k) (joins F zeros k) refl (visit_alike w w' (other_end F.rows F.cols i k) W) W)

  turn_on : (marks marks' stack members : List ℕ) → Alike marks marks' → Walks (turn_on_of F zeros marks stack members) (turn_on_of F zeros marks' stack members)
  unfolding turn_on_of serve
  turn_on marks marks' [] members A = record { search = record { marks = A; stack = refl }; members = refl }
  turn_on marks marks' (i ∷ stack) members A =
      record { search = all_alike i (places F.rows F.cols i) (search marks stack) (search marks' stack) (record { marks = A; stack = refl }); members = refl }

  turn_alike : (w w' : Walk) → Walks w w' → Walks (turn F zeros w) (turn F zeros w')
  turn_alike w w' W = rw (W.search.stack, W.members) (turn_on w.search.marks w'.search.marks w.search.stack w.members W.search.marks)

  turns_alike : (more : ℕ) (w w' : Walk) → Walks w w' → Walks (turns F zeros more w) (turns F zeros more w')
  unfolding turns
  turns_alike zero w w' W = W
  turns_alike (suc more) w w' W = turns_alike more (turn F zeros w) (turn F zeros w') (turn_alike w w' W)

  walk_alike : (marks marks' : List ℕ) (start : ℕ) → Alike marks marks' → Walks (walk F zeros marks start) (walk F zeros marks' start)
  unfolding walk
  walk_alike marks marks' start A =
      turns_alike (variables F) _ _ (record { search = visit_alike (search marks []) (search marks' []) start (record { marks = A; stack = refl }); members = refl })

  parts_to_lem : (marks marks' : List ℕ) (i : ℕ) → Alike marks marks' → Finds (parts_to F zeros marks i) (parts_to F zeros marks' i)
  unfolding parts_to part_at
  parts_to_lem marks marks' zero A = record { marks = A; found = refl }
  parts_to_lem marks marks' (suc i) A = go (parts_to F zeros marks i) (parts_to F zeros marks' i) (parts_to_lem marks marks' i A)
    where
      go : (p p' : Parts) → Finds p p' → Finds (part_at F zeros p i) (part_at F zeros p' i)
      go p p' P =
          let W = walk_alike p.marks p'.marks i P.marks in
          same_way Finds (eqb (get_or p.marks i 0) 2) (eqb (get_or p'.marks i 0) 2) (P.marks.opens i)
          (record { marks = W.search.marks; found = rw (P.found, W.members) refl }) P

  -- the same components in the same order, each in the same pop order
  pub components_alike : (marks marks' : List ℕ) → Alike marks marks' → components F zeros marks' ≡ components F zeros marks
  unfolding components
  components_alike marks marks' A = (parts_to_lem marks marks' (variables F) A).found

-- ---- values that are the same at the ends of entries

-- of one length, and the same at the variables meant
pub record Same (P : ℕ → Type 0) (v v' : List ℕ) : Type 0 where
  pub long : length v' ≡ length v
  pub at : (i : ℕ) → P i → get_or v' i 0 ≡ get_or v i 0

module _ {F : Field} (S : Shaped F) (P : ℕ → Type 0) (ends : (k : ℕ) → k < entries F → P (row_end F k) × P (column_end F k)) where
  joined_meant : (i j : ℕ) → Joined F true i j → P j
  joined_meant i j joined =
      ⊎_elim (λ e. subst P e.1 (ends joined.entry joined.below).1) (λ e. subst P e.0 (ends joined.entry joined.below).0) joined.ends

  put_same : (v v' members : List ℕ) (mask c : ℕ) → Same P v v' → Same P (put_to v members mask c) (put_to v' members mask c)
  unfolding put_to
  put_same v v' members mask zero Q = Q
  put_same v v' members mask (suc c) Q = go (put_to v members mask c) (put_to v' members mask c) (get_or members c 0) _ (put_same v v' members mask c Q)
    where
      go : (x x' : List ℕ) (t b : ℕ) → Same P x x' → Same P (set x t b) (set x' t b)
      go x x' t b R = record {
        long = length-set x' t b ∙ R.long ∙ sym (length-set x t b);
        at = λ i p. set_both x x' t b R.long (λ y z. z ≡ y) refl i (R.at i p);
      }

  solved_same : (v v' members : List ℕ) → Same P v v' → Same P (solved F v members) (solved F v' members)
  unfolding solved
  solved_same v v' members Q =
      rw (mask_alike S v v' members (λ b l j joined. Q.at j (joined_meant (get_or members b 0) j joined))) (put_same v v' members (mask_of F v members) (length members) Q)

  part_same : (v v' members : List ℕ) → Same P v v' → Same P (solved_part F v members) (solved_part F v' members)
  unfolding solved_part
  part_same v v' members Q = same_way (Same P) (leb (length members) 10) (leb (length members) 10) refl (solved_same v v' members Q) Q

  parts_same : (v v' : List ℕ) (parts : List (List ℕ)) → Same P v v' → Same P (solved_parts F v parts) (solved_parts F v' parts)
  unfolding solved_parts
  parts_same v v' [] Q = Q
  parts_same v v' (members ∷ more) Q = parts_same (solved_part F v members) (solved_part F v' members) more (part_same v v' members Q)

  -- values that are free alike, and the same at the ends of entries, get the same values there
  pub small_same : (s s' : List ℕ) → Alike s s' → Same P s s' → Same P (small_parts F s) (small_parts F s')
  unfolding small_parts
  small_same s s' A Q = rw (components_alike F true s s' A) (parts_same s s' (components F true s) Q)
