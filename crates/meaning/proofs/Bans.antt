-- What a list of records forbids, and lists of equal meaning. Assumes nothing.
use mathlib.Core.Path.{refl}
use mathlib.Core.Logic.{◌⊎◌, inl, inr, ⊎_elim}
use mathlib.Core.List.Memᴰ
use mathlib.Core.List.{List, [], ◌++◌, Memᴰ}
use Prim.Native.Nat.{ℕ}
use Rattle.meaning.specs.Kinds.{Pair}
use Rattle.meaning.specs.Records.{Record, pairs_in, Bans, SameBans}

-- a record of l forbids the pairs of its set
pub bans_of : {l : List Record} {x : Record} {p : Pair} → Memᴰ x l → Memᴰ p (pairs_in x.set) → Bans l x.lower x.higher p
bans_of {x = x} m q = record { by = x; among = m; is_lower = refl; is_higher = refl; forbids = q }

-- what a record of l forbids, a list with that record does
pub bans_at : {l m : List Record} {i j : ℕ} {p : Pair} (f : Bans l i j p) → Memᴰ f.by m → Bans m i j p
bans_at f q = record { by = f.by; among = q; is_lower = f.is_lower; is_higher = f.is_higher; forbids = f.forbids }

pub no_bans : {i j : ℕ} {p : Pair} → Bans [] i j p → ⊥
no_bans f = Memᴰ.not-nil f.among

-- ---- lists one behind the other

pub bans_left : {l : List Record} (m : List Record) {i j : ℕ} {p : Pair} → Bans l i j p → Bans (l ++ m) i j p
bans_left m f = bans_at f (Memᴰ.append_left m f.among)

pub bans_right : (l : List Record) {m : List Record} {i j : ℕ} {p : Pair} → Bans m i j p → Bans (l ++ m) i j p
bans_right l f = bans_at f (Memᴰ.append_right l f.among)

pub bans_cases : (l : List Record) {m : List Record} {i j : ℕ} {p : Pair} → Bans (l ++ m) i j p → Bans l i j p ⊎ Bans m i j p
bans_cases l f = ⊎_elim (λ r. inl (bans_at f r)) (λ r. inr (bans_at f r)) (Memᴰ.append_cases l f.among)

-- ---- equal meaning

pub same_refl : (l : List Record) → SameBans l l
same_refl l = record { to = λ i j p f. f; from = λ i j p f. f }

pub same_sym : {l m : List Record} → SameBans l m → SameBans m l
same_sym h = record { to = h.from; from = h.to }

pub same_trans : {k l m : List Record} → SameBans k l → SameBans l m → SameBans k m
same_trans g h = record { to = λ i j p f. h.to i j p (g.to i j p f); from = λ i j p f. g.from i j p (h.from i j p f) }

-- lists with the same records
pub same_records : {l m : List Record} → ((x : Record) → Memᴰ x l → Memᴰ x m) → ((x : Record) → Memᴰ x m → Memᴰ x l) → SameBans l m
same_records to from = record { to = λ i j p f. bans_at f (to f.by f.among); from = λ i j p f. bans_at f (from f.by f.among) }

-- of equal parts
pub same_both : {k l m n : List Record} → SameBans k m → SameBans l n → SameBans (k ++ l) (m ++ n)
same_both {k} {l} {m} {n} g h = record {
  to = λ i j p f. ⊎_elim (λ r. bans_left n (g.to i j p r)) (λ r. bans_right m (h.to i j p r)) (bans_cases k f);
  from = λ i j p f. ⊎_elim (λ r. bans_left l (g.from i j p r)) (λ r. bans_right k (h.from i j p r)) (bans_cases m f);
}

-- the parts exchanged
pub same_swap : (k l : List Record) → SameBans (k ++ l) (l ++ k)
same_swap k l = record {
  to = λ i j p f. ⊎_elim (λ r. bans_right l r) (λ r. bans_left k r) (bans_cases k f);
  from = λ i j p f. ⊎_elim (λ r. bans_right k r) (λ r. bans_left l r) (bans_cases l f);
}
