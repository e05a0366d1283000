-- Flushes worked by hand. Assumes nothing.
use mathlib.Core.Path.{◌≡◌, refl}
use mathlib.Core.List.{[], ◌∷◌}
use Rattle.scratch.specs.Over.{over}
use Rattle.meaning.specs.Rising.{before, insert, merged_list}
use Rattle.constraints.specs.Record.{flat, records, filled}
use Rattle.sorting.specs.Numbers.{distinct, padded, distinct_at}
use Rattle.std.specs.Prelude.{Some, None}
use Rattle.found.specs.Joint.{front, joint}
use Rattle.found.specs.Flush.{left, settled_if, settled, flushed}

-- (0,1,8) is held; 8 is found again, and 1 and 4 of (0,2): one record is new, and nothing behind it is written
pub one_new : flushed (0 ∷ 1 ∷ 8 ∷ 7 ∷ 7 ∷ 7 ∷ 7 ∷ 7 ∷ 7 ∷ []) 1 (36 ∷ 24 ∷ 33 ∷ []) 0 3
    ≡ left (Some 2) (0 ∷ 1 ∷ 8 ∷ 0 ∷ 2 ∷ 5 ∷ 7 ∷ 7 ∷ 7 ∷ []) (24 ∷ 37 ∷ 0 ∷ [])
unfolding flushed settled settled_if joint front records filled over flat merged_list insert before distinct_at padded distinct
one_new = refl

-- another set of a pair that is held needs no room
pub same_pair_fits : flushed (0 ∷ 1 ∷ 8 ∷ 7 ∷ []) 1 (17 ∷ 17 ∷ []) 0 2 ≡ left (Some 1) (0 ∷ 1 ∷ 9 ∷ 7 ∷ []) (17 ∷ 0 ∷ [])
unfolding flushed settled settled_if joint front records filled over flat merged_list insert before distinct_at padded distinct
same_pair_fits = refl

-- a new pair does
pub new_is_full : flushed (0 ∷ 1 ∷ 8 ∷ 7 ∷ []) 1 (33 ∷ []) 0 1 ≡ left None (0 ∷ 1 ∷ 8 ∷ 7 ∷ []) (33 ∷ [])
unfolding flushed settled settled_if joint front records filled over flat merged_list insert before distinct_at padded distinct
new_is_full = refl
