-- A step moves the tally on: from the totals with its field and the bytes behind it, the tally is the same. Assumes nothing.
use Prim.Native.Nat.{ℕ, zero, suc, ◌<◌, ◌≤◌}
use mathlib.Core.Path.{◌≡◌, refl, sym, ap, ◌∙◌}
use mathlib.Core.Bool.{Bool, true, false, cond}
use mathlib.Core.List.{List, [], ◌∷◌}
use native.Mathlib.Nat.{add-zero, add_assoc}
use native.Mathlib.Omega.{arith}
use borrow.Author.Tests.{lt-ltb}
use lib.Dec.{leb-suc-suc}
use lib.ListN.{length, drop, length-drop}
use Rattle.std.specs.Prelude.{Some, None}
use Rattle.std.specs.declared.ops.ControlFlow.{ControlFlow}
use Rattle.std.specs.declared.ops.ControlFlow.TheVariants.{Continue, Break}
use Rattle.records.specs.Told.{Told, parsed}
use Rattle.records.proofs.Front.{parsed_ends}
use Rattle.tally.specs.Pieces.{Piece, field, fault, followed, pieces_from, pieces, reads, exacts, inexacts, refusals, givens, zeros, ones, frees, sum_of}
use Rattle.tally.specs.Tally.{totals_of, is_within, counted, has_fault, ending_of, reached, tally, tally_on, plus, counts_of, met_of, met, added, stepped}
use Rattle.tally.specs.declared.Totals.{Totals}
use Rattle.tally.specs.declared.Ending.TheVariants.{Whole, Malformed, Full}
use Rattle.tally.specs.declared.Reached.{Reached}
use Rattle.tally.specs.declared.Tally.{Tally}

-- ---- sums

pub plus_none : (t : Totals) → plus t (totals_of []) ≡ t
unfolding plus totals_of sum_of
plus_none t = rw (
  add-zero t.read,
  add-zero t.exact,
  add-zero t.inexact,
  add-zero t.refused,
  add-zero t.given,
  add-zero t.zero,
  add-zero t.one,
  add-zero t.free,
)

-- one piece, and then others
pub plus_first : (t : Totals) (p : Piece) (ps : List Piece) → plus t (totals_of (p ∷ ps)) ≡ plus (plus t (counts_of p)) (totals_of ps)
unfolding plus totals_of counts_of sum_of
plus_first t p ps =
    sym (rw (
      add_assoc t.read (reads p) (sum_of reads ps),
      add_assoc t.exact (exacts p) (sum_of exacts ps),
      add_assoc t.inexact (inexacts p) (sum_of inexacts ps),
      add_assoc t.refused (refusals p) (sum_of refusals ps),
      add_assoc t.given (givens p) (sum_of givens ps),
      add_assoc t.zero (zeros p) (sum_of zeros ps),
      add_assoc t.one (ones p) (sum_of ones ps),
      add_assoc t.free (frees p) (sum_of frees ps),
    ))

-- ---- the pieces of an input

pieces_enough : (j k : ℕ) (s : List ℕ) → length s ≤ j → length s ≤ k → pieces_from j s ≡ pieces_from k s
unfolding pieces_from
pieces_enough zero zero s h l = refl
pieces_enough zero (suc k) [] h l = refl
pieces_enough zero (suc k) (b ∷ s) h l = absurd (omega arith)
pieces_enough (suc j) zero [] h l = refl
pieces_enough (suc j) zero (b ∷ s) h l = absurd (omega arith)
pieces_enough (suc j) (suc k) [] h l = refl
pieces_enough (suc j) (suc k) (b ∷ s) h l = go (parsed (b ∷ s)).whole refl (λ s'. pieces_enough j k s')
  where
    go : (w : Bool) → (parsed (b ∷ s)).whole ≡ w → ((s' : List ℕ) → length s' ≤ j → length s' ≤ k → pieces_from j s' ≡ pieces_from k s')
        → cond w (field (parsed (b ∷ s)).told ∷ pieces_from j (drop (parsed (b ∷ s)).end (b ∷ s))) (fault ∷ [])
        ≡ cond w (field (parsed (b ∷ s)).told ∷ pieces_from k (drop (parsed (b ∷ s)).end (b ∷ s))) (fault ∷ [])
    go true e ih =
        let ends = parsed_ends (b ∷ s) e in
        let left = length-drop (parsed (b ∷ s)).end (b ∷ s) in
        ap (λ (ps : List Piece). field (parsed (b ∷ s)).told ∷ ps)
        (ih (drop (parsed (b ∷ s)).end (b ∷ s)) (omega (arith, ends.later, ends.reached, left)) (omega (arith, ends.later, ends.reached, left)))
    go false e ih = refl

-- the front of the pieces, where there are bytes
pub pieces_front : (s : List ℕ) → 0 < length s → pieces s ≡ followed pieces s (parsed s)
unfolding pieces pieces_from
pieces_front [] h = absurd (omega arith)
pieces_front (b ∷ s) h = go (parsed (b ∷ s)).whole refl
  where
    go : (w : Bool) → (parsed (b ∷ s)).whole ≡ w
        → cond w (field (parsed (b ∷ s)).told ∷ pieces_from (length s) (drop (parsed (b ∷ s)).end (b ∷ s))) (fault ∷ [])
        ≡ cond w (field (parsed (b ∷ s)).told ∷ pieces_from (length (drop (parsed (b ∷ s)).end (b ∷ s))) (drop (parsed (b ∷ s)).end (b ∷ s))) (fault ∷ [])
    go true e =
        let ends = parsed_ends (b ∷ s) e in
        let left = length-drop (parsed (b ∷ s)).end (b ∷ s) in
        ap (λ (ps : List Piece). field (parsed (b ∷ s)).told ∷ ps)
        (pieces_enough (length s) (length (drop (parsed (b ∷ s)).end (b ∷ s))) (drop (parsed (b ∷ s)).end (b ∷ s)) (omega (arith, ends.later, ends.reached, left)) (omega arith))
    go false e = refl

-- ---- a step that goes on

module _ (most : ℕ) (t : Totals) (s : List ℕ) {t' : Totals} {end : ℕ} (e : stepped most t s ≡ Continue (reached t' end)) where
  -- it went over a field, and no total passes the limit
  pub step_on : ((parsed s).whole ≡ true) × (end ≡ (parsed s).end) × (t' ≡ plus t (counts_of (field (parsed s).told))) × (is_within most t' ≡ true)
  unfolding stepped met met_of added
  step_on = go (parsed s).whole e
    where
      within : (b : Bool) → is_within most (plus t (counts_of (field (parsed s).told))) ≡ b
          → cond b (Continue (reached (plus t (counts_of (field (parsed s).told))) (parsed s).end)) (Break (tally Full t)) ≡ Continue (reached t' end)
          → (end ≡ (parsed s).end) × (t' ≡ plus t (counts_of (field (parsed s).told))) × (is_within most t' ≡ true)
      within true w q =
          let both : reached (plus t (counts_of (field (parsed s).told))) (parsed s).end ≡ reached t' end = cc in
          let same : t' ≡ plus t (counts_of (field (parsed s).told)) = sym (ap (λ (r : Reached). r.totals) both) in
          (sym (ap (λ (r : Reached). r.at) both), same, ap (is_within most) same ∙ w)
      within false w q = let z : ◌≡◌ {A = ℕ} 0 1 = cc in absurd (omega arith)

      fails : (b : Bool) → cond b (Break (tally Malformed (plus t (counts_of fault)))) (Break (tally Full t)) ≡ Continue (reached t' end) → ⊥
      fails true q = let z : ◌≡◌ {A = ℕ} 0 1 = cc in omega arith
      fails false q = let z : ◌≡◌ {A = ℕ} 0 1 = cc in omega arith

      go : (w : Bool) → added most t (cond w (Some (reached (counts_of (field (parsed s).told)) (parsed s).end)) None) ≡ Continue (reached t' end)
          → (w ≡ true) × (end ≡ (parsed s).end) × (t' ≡ plus t (counts_of (field (parsed s).told))) × (is_within most t' ≡ true)
      go true q = let rest = within (is_within most (plus t (counts_of (field (parsed s).told)))) refl q in (refl, rest.0, rest.1, rest.2)
      go false q = absurd (fails (is_within most (plus t (counts_of fault))) q)

  pub step_moves : (0 < end) × (end ≤ length s)
  step_moves = let ends = parsed_ends s step_on.0 in (omega (arith, ends.later, step_on.1), omega (arith, ends.reached, step_on.1))

-- ---- the tally of some pieces

unfoldable tally_pieces : ℕ → Totals → List Piece → Tally
tally_pieces most t ps = tally (ending_of most t ps) (plus t (totals_of (counted most t ps)))

module _ (most : ℕ) (t : Totals) where
  of_none : tally_pieces most t [] ≡ tally Whole t
  unfolding tally_pieces ending_of counted has_fault
  of_none = ap (tally Whole) (plus_none t)

  of_full : (p : Piece) (ps : List Piece) → is_within most (plus t (counts_of p)) ≡ false → tally_pieces most t (p ∷ ps) ≡ tally Full t
  unfolding tally_pieces ending_of counted
  of_full p ps e = rw e (simp (lt-ltb 0 (length (p ∷ ps)) (omega arith)) (ap (tally Full) (plus_none t)))

  of_field : (d : Told) (ps : List Piece) → is_within most (plus t (counts_of (field d))) ≡ true
      → tally_pieces most t (field d ∷ ps) ≡ tally_pieces most (plus t (counts_of (field d))) ps
  unfolding tally_pieces ending_of counted has_fault
  of_field d ps e =
      let t' = plus t (counts_of (field d)) in
      rw (e, leb-suc-suc (suc (length (counted most t' ps))) (length ps), plus_first t (field d) (counted most t' ps))

  of_fault : is_within most (plus t (counts_of fault)) ≡ true → tally_pieces most t (fault ∷ []) ≡ tally Malformed (plus t (counts_of fault))
  unfolding tally_pieces ending_of counted has_fault
  of_fault e = rw e (ap (tally Malformed) (plus_first t fault [] ∙ plus_none (plus t (counts_of fault))))

-- ---- the tally, step by step

-- an empty input adds nothing
pub tally_none : (most : ℕ) (t : Totals) → tally_on most t [] ≡ tally Whole t
unfolding tally_on pieces pieces_from tally_pieces
tally_none most t = of_none most t

abbrev pub after_step : (Totals → List ℕ → Tally) → List ℕ → ControlFlow Tally Reached → Tally
after_step next s (Continue r) = next r.totals (drop r.at s)
after_step next s (Break y) = y

module _ (most : ℕ) (t : Totals) (s : List ℕ) where
  behind_field : (d : Told) (end : ℕ)
      → tally_pieces most t (field d ∷ pieces (drop end s)) ≡ after_step (λ u r. tally_pieces most u (pieces r)) s (added most t (Some (reached (counts_of (field d)) end)))
  unfolding added
  behind_field d end = go (is_within most (plus t (counts_of (field d)))) refl
    where
      go : (b : Bool) → is_within most (plus t (counts_of (field d))) ≡ b
          → tally_pieces most t (field d ∷ pieces (drop end s))
          ≡ after_step (λ u r. tally_pieces most u (pieces r)) s (cond b (Continue (reached (plus t (counts_of (field d))) end)) (Break (tally Full t)))
      go true e = of_field most t d (pieces (drop end s)) e
      go false e = of_full most t (field d) (pieces (drop end s)) e

  at_fault : tally_pieces most t (fault ∷ []) ≡ after_step (λ u r. tally_pieces most u (pieces r)) s (added most t None)
  unfolding added
  at_fault = go (is_within most (plus t (counts_of fault))) refl
    where
      go : (b : Bool) → is_within most (plus t (counts_of fault)) ≡ b
          → tally_pieces most t (fault ∷ []) ≡ after_step (λ u r. tally_pieces most u (pieces r)) s (cond b (Break (tally Malformed (plus t (counts_of fault)))) (Break (tally Full t)))
      go true e = of_fault most t e
      go false e = of_full most t fault [] e

  pub tally_step : 0 < length s → tally_on most t s ≡ after_step (tally_on most) s (stepped most t s)
  unfolding tally_on tally_pieces stepped met met_of
  tally_step h = ap (tally_pieces most t) (pieces_front s h) ∙ go (parsed s).whole
    where
      go : (w : Bool) → tally_pieces most t (cond w (field (parsed s).told ∷ pieces (drop (parsed s).end s)) (fault ∷ []))
          ≡ after_step (λ u r. tally_pieces most u (pieces r)) s (added most t (cond w (Some (reached (counts_of (field (parsed s).told)) (parsed s).end)) None))
      go true = behind_field (parsed s).told (parsed s).end
      go false = at_fault
