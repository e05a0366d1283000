-- Membership of lists that are joined. Assumes nothing.
use mathlib.Core.List.{List, [], ◌∷◌, ◌++◌, Memᴰ}

module _ {A : Type 0} {a : A} where
  pub in_left : {l : List A} (m : List A) → Memᴰ a l → Memᴰ a (l ++ m)
  in_left m (Memᴰ.head e) = Memᴰ.head e
  in_left m (Memᴰ.tail i) = Memᴰ.tail (in_left m i)

  pub in_right : (l : List A) {m : List A} → Memᴰ a m → Memᴰ a (l ++ m)
  in_right [] i = i
  in_right (b ∷ l) i = Memᴰ.tail (in_right l i)
