-- A refusal is given exactly if its test is the first to fail; how code that tests in order answers the table. Assumes nothing.
use mathlib.Core.Path.{◌≡◌, refl, sym}
use mathlib.Core.Logic.{◌↔◌}
use mathlib.Core.Bool.{Bool, true, false}
use mathlib.Core.List.{List, [], ◌∷◌, ◌++◌}
use Prim.Native.Nat.{ℕ}
use native.Mathlib.Omega.{arith}
use Rattle.field.specs.declared.Refusal.{Refusal}
use Rattle.field.specs.Table.{Test, test, unless, tested, FirstToFail, fails, passes, AllPass, none, more}
use Rattle.field.specs.Answers.{Answer, passed}
use Rattle.std.specs.Prelude.{Err}

-- ---- what the answer says

pub not_both : {r : Refusal} {c : Answer Unit} → c ≡ passed → c ≡ Err r → ⊥
not_both p q = let z : ◌≡◌ {A = ℕ} 0 1 = cc in omega arith

pub same_refusal : {A : Type 0} {r s : Refusal} → ◌≡◌ {A = Answer A} (Err r) (Err s) → r ≡ s
same_refusal e = cc

pub refused_by : (ts : List Test) (r : Refusal) → tested ts ≡ Err r → FirstToFail ts r
unfolding tested
refused_by [] r e = absurd (not_both refl e)
refused_by (t ∷ ts) r e = by t.passes refl e (refused_by ts r)
  where
    by : (b : Bool) → t.passes ≡ b → unless b t.refusal (tested ts) ≡ Err r → (tested ts ≡ Err r → FirstToFail ts r) → FirstToFail (t ∷ ts) r
    by true p e rest = passes p (rest e)
    by false p e rest = rw (← same_refusal e) (fails p)

pub first_refuses : {ts : List Test} {r : Refusal} → FirstToFail ts r → tested ts ≡ Err r
unfolding tested
first_refuses (fails p) = rw p
first_refuses (passes p f) = rw p (first_refuses f)

-- Theorem. THE TABLE: a refusal is given exactly if every test before its own passes, and its own fails.
pub refused_exactly : (ts : List Test) (r : Refusal) → (tested ts ≡ Err r) ↔ FirstToFail ts r
refused_exactly ts r = (refused_by ts r, first_refuses)

pub all_passed : (ts : List Test) → tested ts ≡ passed → AllPass ts
unfolding tested
all_passed [] e = none
all_passed (t ∷ ts) e = by t.passes refl e (all_passed ts)
  where
    by : (b : Bool) → t.passes ≡ b → unless b t.refusal (tested ts) ≡ passed → (tested ts ≡ passed → AllPass ts) → AllPass (t ∷ ts)
    by true p e rest = more p (rest e)
    by false p e rest = absurd (not_both e refl)

pub passed_all : {ts : List Test} → AllPass ts → tested ts ≡ passed
unfolding tested
passed_all none = refl
passed_all (more p a) = rw p (passed_all a)

-- Theorem. No refusal is given exactly if every test passes.
pub passed_exactly : (ts : List Test) → (tested ts ≡ passed) ↔ AllPass ts
passed_exactly ts = (all_passed ts, passed_all)

-- ---- how code answers it: a test fails, or passes and leaves the rest

pub test_no : {b : Bool} (r : Refusal) (ts : List Test) → b ≡ false → Err r ≡ tested (test r b ∷ ts)
unfolding tested
test_no r ts e = rw e

pub test_ok : {b : Bool} (r : Refusal) (ts : List Test) {x : Answer Unit} → b ≡ true → x ≡ tested ts → x ≡ tested (test r b ∷ ts)
unfolding tested
test_ok r ts e h = rw e h

pub none_left : passed ≡ tested []
unfolding tested
none_left = refl

-- a group of tests, and what comes after it
pub group_no : (ts us : List Test) {r : Refusal} → tested ts ≡ Err r → Err r ≡ tested (ts ++ us)
unfolding tested
group_no [] us e = absurd (not_both refl e)
group_no (t ∷ ts) us {r} e = by t.passes e (group_no ts us)
  where
    by : (b : Bool) → unless b t.refusal (tested ts) ≡ Err r → (tested ts ≡ Err r → Err r ≡ tested (ts ++ us)) → Err r ≡ unless b t.refusal (tested (ts ++ us))
    by true e rest = rest e
    by false e rest = sym e

pub group_ok : (ts us : List Test) {x : Answer Unit} → tested ts ≡ passed → x ≡ tested us → x ≡ tested (ts ++ us)
unfolding tested
group_ok [] us e h = h
group_ok (t ∷ ts) us {x} e h = by t.passes e (λ p. group_ok ts us p h)
  where
    by : (b : Bool) → unless b t.refusal (tested ts) ≡ passed → (tested ts ≡ passed → x ≡ tested (ts ++ us)) → x ≡ unless b t.refusal (tested (ts ++ us))
    by true e rest = rest e
    by false e rest = absurd (not_both e refl)

split : (ts us : List Test) → tested (ts ++ us) ≡ passed → (tested ts ≡ passed) × (tested us ≡ passed)
unfolding tested
split [] us e = (refl, e)
split (t ∷ ts) us e = by t.passes e (split ts us)
  where
    by : (b : Bool) → unless b t.refusal (tested (ts ++ us)) ≡ passed → (tested (ts ++ us) ≡ passed → (tested ts ≡ passed) × (tested us ≡ passed)) → (unless b t.refusal (tested ts) ≡ passed) × (tested us ≡ passed)
    by true e rest = rest e
    by false e rest = absurd (not_both e refl)

-- ---- what passing means, test by test

pub last_is : {A : Type 0} (r : Refusal) (b : Bool) → (b ≡ true) ↔ A → (tested (test r b ∷ []) ≡ passed) ↔ A
unfolding tested
last_is {A} r b p = (from b p.0, λ h. rw (p.1 h))
  where
    from : (b : Bool) → (b ≡ true → A) → unless b r passed ≡ passed → A
    from true f e = f refl
    from false f e = absurd (not_both e refl)

module _ {A B : Type 0} where
  pub pass_is : (r : Refusal) (b : Bool) (ts : List Test) → (b ≡ true) ↔ A → (tested ts ≡ passed) ↔ B → (tested (test r b ∷ ts) ≡ passed) ↔ (A × B)
  unfolding tested
  pass_is r b ts p q = (from b p.0, λ h. rw (p.1 h.0) (q.1 h.1))
    where
      from : (b : Bool) → (b ≡ true → A) → unless b r (tested ts) ≡ passed → A × B
      from true f e = (f refl, q.0 e)
      from false f e = absurd (not_both e refl)

  pub group_is : (ts us : List Test) → (tested ts ≡ passed) ↔ A → (tested us ≡ passed) ↔ B → (tested (ts ++ us) ≡ passed) ↔ (A × B)
  group_is ts us p q = ((λ e. let s = split ts us e in (p.0 s.0, q.0 s.1)), λ h. sym (group_ok ts us (p.1 h.0) (sym (q.1 h.1))))
