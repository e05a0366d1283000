-- `work` prepares and walks. Assumes nothing.
use native.Mathlib.Omega.{arith}
use Rattle.pairs.proofs.CallLaws.{free_room, work_prepared, work_freed}
use Rattle.pairs.proofs.work.Goals as goal

pub walk_pairs-requires : goal.walk_pairs-requires
walk_pairs-requires c = record {
  prepared = work_prepared c.parts.ensures c.merge.ensures c.list_free-k.ensures;
  freed = work_freed c.list_free-k.ensures;
  values_in_bounds = free_room c.args.f.now
      c.args.u.now c.requires (omega (arith, c.list_free-k.ensures.long, c.merge.ensures.kept.words_long, c.build.ensures.long));
}
