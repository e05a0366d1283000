-- A separate part can be completed by itself: its least values stand in some best completion. Assumes nothing.
use mathlib.Core.Path.{◌≡◌, refl, sym, ap, ◌∙◌}
use mathlib.Core.Logic.{◌≢◌, ◌⊎◌, inl, inr, ⊎_elim}
use mathlib.Core.Bool.{Bool, true, false, cond, true≢false, false≢true}
use mathlib.Core.List.{List, [], ◌∷◌}
use Prim.Native.Nat.{ℕ, zero, suc, ◌<◌}
use native.Mathlib.Omega.{arith}
use lib.ListN.{length, get_or}
use Rattle.whole.specs.Whole.{Whole, ◌⊕◌, ◌⊙◌, ◌≈◌}
use Rattle.whole.proofs.Sums.{sum_four}
use Rattle.meaning.specs.Steps.{Extends}
use Rattle.meaning.specs.Field.{Field, variable_term, entry_term, twice_f, Completion, Best}
use Rattle.meaning.specs.Part.{mix, Separate, LeastOn, Safe}
use Rattle.meaning.proofs.Values.{extends_refl}

pub mix_length : (K : ℕ → Bool) (y x : List ℕ) → length y ≡ length x → length (mix K y x) ≡ length x
mix_length K [] [] h = refl
mix_length K [] (x ∷ xs) h = omega arith
mix_length K (y ∷ ys) [] h = omega arith
mix_length K (y ∷ ys) (x ∷ xs) h = omega (arith, mix_length (λ i. K (suc i)) ys xs (omega arith))

cond_same : (b : Bool) (a : ℕ) → cond b a a ≡ a
cond_same true a = refl
cond_same false a = refl

cond_is : (P : ℕ → Type 0) (b : Bool) {y x : ℕ} → P y → P x → P (cond b y x)
cond_is P true p q = p
cond_is P false p q = q

pub mix_at : (K : ℕ → Bool) (y x : List ℕ) → length y ≡ length x → (i : ℕ) → get_or (mix K y x) i 0 ≡ cond (K i) (get_or y i 0) (get_or x i 0)
mix_at K [] [] h i = sym (cond_same (K i) 0)
mix_at K [] (x ∷ xs) h i = omega arith
mix_at K (y ∷ ys) [] h i = omega arith
mix_at K (y ∷ ys) (x ∷ xs) h zero = refl
mix_at K (y ∷ ys) (x ∷ xs) h (suc i) = mix_at (λ i. K (suc i)) ys xs (omega arith) i

-- ---- THE EXCHANGE: f(y on K, x elsewhere) + f(x on K, y elsewhere) = f(x) + f(y)

exchange_linear : (c : Whole) (a : Bool) (x y : ℕ) → c ⊙ cond a y x ⊕ c ⊙ cond a x y ≈ c ⊙ x ⊕ c ⊙ y
exchange_linear c true x y = omega arith
exchange_linear c false x y = omega arith

-- an entry with both ends on one side, or with an end where x and y agree
exchange_entry : (q : Whole) (a b : Bool) (x y u v : ℕ) → (a ≡ b) ⊎ ((x ≡ y) ⊎ (u ≡ v)) → q ⊙ cond a y x ⊙ cond b v u ⊕ q ⊙ cond a x y ⊙ cond b u v ≈ q ⊙ x ⊙ u ⊕ q ⊙ y ⊙ v
exchange_entry q true true x y u v h = omega arith
exchange_entry q false false x y u v h = omega arith
exchange_entry q true false x y u v h = ⊎_elim (λ e. absurd (true≢false e)) (⊎_elim (λ e. rw e (omega arith)) (λ e. rw e (omega arith))) h
exchange_entry q false true x y u v h = ⊎_elim (λ e. absurd (false≢true e)) (⊎_elim (λ e. rw e (omega arith)) (λ e. rw e (omega arith))) h

module _ {s x y : List ℕ} (K : ℕ → Bool) (p : Completion s x) (q : Completion s y) where
  as_long : length x ≡ length y
  as_long = p.extends.as_long ∙ sym q.extends.as_long

  -- two completions agree where s is fixed
  agree : (i : ℕ) → get_or s i 0 ≢ 2 → get_or x i 0 ≡ get_or y i 0
  agree i n = ⊎_elim (λ e. absurd (n e)) (λ e. ⊎_elim (λ f. absurd (n f)) (λ f. e ∙ sym f) (q.extends.kept i)) (p.extends.kept i)

  exchange : (F : Field) → Separate F s K → twice_f F (mix K y x) ⊕ twice_f F (mix K x y) ≈ twice_f F x ⊕ twice_f F y
  exchange F sep =
      omega (
        arith,
        sum_four F.n (variable_term F (mix K y x)) (variable_term F (mix K x y)) (variable_term F x) (variable_term F y) (λ i h.
            simp (at_yx, at_xy) (exchange_linear (F.linear i) (K i) (get_or x i 0) (get_or y i 0))),
        sum_four F.m (entry_term F (mix K y x)) (entry_term F (mix K x y)) (entry_term F x) (entry_term F y) (λ k h.
            simp (at_yx, at_xy) (exchange_entry (F.weight k) (K (F.row k)) (K (F.column k)) _ _ _ _ (apart k h))),
      )
    where
      at_yx : (i : ℕ) → get_or (mix K y x) i 0 ≡ cond (K i) (get_or y i 0) (get_or x i 0)
      at_yx = mix_at K y x (sym as_long)

      at_xy : (i : ℕ) → get_or (mix K x y) i 0 ≡ cond (K i) (get_or x i 0) (get_or y i 0)
      at_xy = mix_at K x y as_long

      apart : (k : ℕ) → k < F.m → (K (F.row k) ≡ K (F.column k)) ⊎ ((get_or x (F.row k) 0 ≡ get_or y (F.row k) 0) ⊎ (get_or x (F.column k) 0 ≡ get_or y (F.column k) 0))
      apart k h = ⊎_elim inl (λ z. inr (⊎_elim (λ n. inl (agree (F.row k) n)) (λ n. inr (agree (F.column k) n)) z)) (sep k h)

-- the mix of two extensions is one, and of two completions
mix_extends : {s x y : List ℕ} (K : ℕ → Bool) → Extends s x → Extends s y → Extends s (mix K y x)
mix_extends {s} {x} {y} K p q =
    let long : length y ≡ length x = q.as_long ∙ sym p.as_long in
    record {
      as_long = mix_length K y x long ∙ p.as_long;
      kept = λ i. rw (mix_at K y x long i) (cond_is (λ m. (get_or s i 0 ≡ 2) ⊎ (m ≡ get_or s i 0)) (K i) (q.kept i) (p.kept i));
    }

mix_completion : {s x y : List ℕ} (K : ℕ → Bool) → Completion s x → Completion s y → Completion s (mix K y x)
mix_completion {s} {x} {y} K p q =
    record {
      extends = mix_extends K p.extends q.extends;
      full = λ i. rw (mix_at K y x (q.extends.as_long ∙ sym p.extends.as_long) i) (cond_is (λ m. m < 2) (K i) (q.full i) (p.full i));
    }

-- a best completion with K's least values put in is best
pub part_best : {F : Field} {s x y : List ℕ} (K : ℕ → Bool) → Separate F s K → LeastOn F s K y → Best F s x → Best F s (mix K y x)
part_best {F} {s} {x} {y} K sep l b =
    record {
      completion = mix_completion K p q;
      least = λ z c. omega (arith, exchange K p q F sep, b.least z c, l.least (mix K x y) (mix_completion K q p) off);
    }
  where
    p : Completion s x
    p = b.completion

    q : Completion s y
    q = l.completion

    off : (i : ℕ) → K i ≡ false → get_or (mix K x y) i 0 ≡ get_or y i 0
    off i e = mix_at K x y (as_long K p q) i ∙ ap (λ (k : Bool). cond k (get_or x i 0) (get_or y i 0)) e

-- the least values of a separate part are safe
pub part_safe : {F : Field} {s x y : List ℕ} (K : ℕ → Bool) → Separate F s K → LeastOn F s K y → Best F s x → Safe F s (mix K y s)
part_safe {F} {s} {x} {y} K sep l b =
    record {
      extends = mix_extends K (extends_refl s) l.completion.extends;
      witness = mix K y x;
      best = part_best K sep l b;
      agrees = record {
        as_long = mix_length K y x (ly ∙ sym lx) ∙ lx ∙ sym (mix_length K y s ly);
        kept = λ i. rw (mix_at K y x (ly ∙ sym lx) i, mix_at K y s ly i) (fix (K i) (get_or y i 0) (b.completion.extends.kept i));
      };
    }
  where
    lx : length x ≡ length s
    lx = b.completion.extends.as_long

    ly : length y ≡ length s
    ly = l.completion.extends.as_long

    fix : (k : Bool) (a : ℕ) {v w : ℕ} → (v ≡ 2) ⊎ (w ≡ v) → (cond k a v ≡ 2) ⊎ (cond k a w ≡ cond k a v)
    fix true a h = inr refl
    fix false a h = h
