-- What it is that a promise permits one result. Assumes nothing.
use Rattle.std.specs.Prelude.{◌≡◌}

-- any two results that are as promised are equal
abbrev pub One : {A : Type 0} → A → Type 0
One {A} promised = (r r' : A) → r ≡ promised → r' ≡ promised → r ≡ r'
