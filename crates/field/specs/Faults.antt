-- When each of the four refusals of the order of entries is given (rule 3.2). Assumes nothing.
use Rattle.std.specs.Prelude.{ℕ, ◌-◌, ◌<◌, ◌≤◌, ◌≡◌, List, length, get_or, Err}
use Rattle.field.specs.declared.Refusal.{Refusal}
use Rattle.field.specs.declared.Refusal.TheVariants.{Row, Column, Repeat, Order}
use Rattle.field.specs.Answers.{position_of}
use Rattle.field.specs.Table.{Test, tested}
use Rattle.field.specs.Field.{Field, variables, entries, Before}

-- Entry k has nothing wrong, as a statement: its ends are below n, and it stands after the entry before.
pub record Fine (n : ℕ) (rows cols : List ℕ) (k : ℕ) : Type 0 where
  pub row_below : get_or rows k 0 < n
  pub column_below : get_or cols k 0 < n
  pub rises : 0 < k → Before (get_or rows (k - 1) 0) (get_or cols (k - 1) 0) (get_or rows k 0) (get_or cols k 0)

-- k is an entry, and every entry before it is fine
pub record Reached (n : ℕ) (rows cols : List ℕ) (k : ℕ) : Type 0 where
  pub entry : k < length rows
  pub fine : (j : ℕ) → j < k → Fine n rows cols j

-- the four faults at the first entry that has one: its row, its column, the place of the entry before once more, a place before that
pub data Fault (n : ℕ) (rows cols : List ℕ) : Refusal → Type 0 where
  row : {k : ℕ} → Reached n rows cols k → n ≤ get_or rows k 0 → Fault n rows cols (Row k)
  column : {k : ℕ} → Reached n rows cols k → get_or rows k 0 < n → n ≤ get_or cols k 0 → Fault n rows cols (Column k)
  same : {k : ℕ} → Reached n rows cols k → get_or rows k 0 < n → get_or cols k 0 < n
      → 0 < k → get_or rows k 0 ≡ get_or rows (k - 1) 0 → get_or cols k 0 ≡ get_or cols (k - 1) 0 → Fault n rows cols (Repeat k)
  back : {k : ℕ} → Reached n rows cols k → get_or rows k 0 < n → get_or cols k 0 < n
      → 0 < k → Before (get_or rows k 0) (get_or cols k 0) (get_or rows (k - 1) 0) (get_or cols (k - 1) 0) → Fault n rows cols (Order k)

-- Tests 1 and 2 pass: few variables, and entry lists of one length, not too long.
pub record Listed (F : Field) : Type 0 where
  pub few_variables : variables F ≤ 4096
  pub rows_long : length F.rows ≡ entries F
  pub cols_long : length F.cols ≡ entries F
  pub few_entries : entries F ≤ 32768

-- exactly one refusal is at fault, and with it one number and one position
pub record OneFault (n : ℕ) (rows cols : List ℕ) : Type 0 where
  pub refusal : Refusal
  pub given : Fault n rows cols refusal
  pub only : (r : Refusal) → Fault n rows cols r → r ≡ refusal

-- where these tests refuse, the position that is named is below 32,768
abbrev pub Near : List Test → Type 0
Near ts = (r : Refusal) → tested ts ≡ Err r → position_of r < 32768
