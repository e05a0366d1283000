-- The codes of the calls of docs/CASES.md. Assumes nothing.
use Rattle.std.specs.Prelude.{ℕ, ◌≡◌, ◌<◌, ◌⊎◌}
use Rattle.lines.specs.declared.call.Call.{Call}
use Rattle.lines.specs.declared.call.Call.TheVariants.{Closure, Components, Preprocess, Heavy, SingleProbe, ColdProbe, Probe, LimitedProbe, Pairs, Propagation, Anchors, NoEffect, Shift, SubProblem, Mend, Reason, Keep, ColdFull, ColdLimited, Allow, Absent}

-- The code of a call in the head of a case, or the code that no call has.
abbrev pub code_of : Call → ℕ
code_of Closure = 1
code_of Components = 2
code_of Preprocess = 3
code_of Heavy = 4
code_of SingleProbe = 5
code_of ColdProbe = 6
code_of Probe = 7
code_of LimitedProbe = 8
code_of Pairs = 9
code_of Propagation = 10
code_of Anchors = 11
code_of NoEffect = 12
code_of Shift = 13
code_of SubProblem = 14
code_of Mend = 15
code_of Reason = 16
code_of Keep = 17
code_of ColdFull = 18
code_of ColdLimited = 19
code_of Allow = 20
code_of (Absent code) = code

-- No call has this code; a call that is there has nothing to show.
abbrev pub IsCoded : Call → Type 0
IsCoded (Absent code) = (code ≡ 0) ⊎ (20 < code)
IsCoded _ = Unit {0}

-- The call is the one with this code, or absent where no call has it.
abbrev pub Decodes : ℕ → Call → Type 0
Decodes code call = (code_of call ≡ code) × IsCoded call
