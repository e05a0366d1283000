-- `probe_some` builds the places, chooses candidates and settles. Assumes nothing.
use mathlib.Core.Path.{refl, ◌∙◌}
use lib.ListN.{take}
use Rattle.scratch.specs.Region.{region}
use Rattle.field.specs.Field.{lent}
use Rattle.ranking.specs.Ranking.{ranks}
use Rattle.workspace.proofs.Begun.{begin_places}
use Rattle.walking.specs.Walk.{candidates_at}
use Rattle.probes.proofs.Chosen.{ranked_free, ready_same}
use Rattle.probes.proofs.Answers.{settled_as}
use Rattle.cold.proofs.Walked.{lined_of}
use Rattle.cold.proofs.probe_some.Goals as goal

pub build-requires : goal.build-requires
build-requires c = let both = begin_places c.args.f.now c.args.u.now c.requires.ready in
    record { ends_below = both.0; rows_in_bounds = both.1 }

pub choose-count-requires : goal.choose-count-requires
choose-count-requires c =
    ready_same c.requires.ready refl c.build.ensures.long

pub settle-requires : goal.settle-requires
settle-requires c =
    let built = c.build.ensures in
    let chosen = c.choose-count.ensures in
    let a = c.args in
    let F = lent a.field in
    lined_of c.requires.ready c.requires.values_len chosen.floats_long built.long chosen.words_long built.adjacent chosen.words_front
    chosen.within chosen.are (ranked_free F a.start.now a.candidates)

pub returns : goal.returns
returns c =
    let a = c.args in
    let F = lent a.field in
    let h = c.choose-count in
    settled_as F a.start.now a.constraints.now (region (candidates_at F) h.result h.new.u) (take a.candidates (ranks F a.start.now))
    a.values.now a.values.now h.new.f a.f.now h.new.u a.u.now c.settle.ensures
    h.ensures.are refl h.ensures.floats_long (h.ensures.words_long ∙ c.build.ensures.long)
