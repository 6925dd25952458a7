-- An inside letter's leaf: what the rows of its system and the own cuts add is the difference of the word's sums.
use Rattle.std.proofs.Common.{◌≡◌, ◌∙◌, ℕ, zero, suc, ◌+◌, ℤ, ◌+ℤ◌, Bool, true, List, ◌++◌, length, refl, sym, ap, arith}
use Rattle.std.proofs.lemmas.Int.{ints}
use Rattle.lin_rows.specs.Rows.{LinearRow}
use Rattle.nested_itp.specs.NestedRefutations.Refutations.{Role, branch_row, View, atom_roles}
use Rattle.nested_itp.specs.NestedRefutations.Numbers.{branch_rows}
use Rattle.nested_itp.proofs.NestedRefutations.RowsLaws.{AllPairs, pairs_counted}
use Rattle.nested_itp.proofs.NestedRefutations.WayLaws.{others, others_joined, others_atoms, is_own}
use Rattle.nested_itp.proofs.NestedRefutations.WindowLaws.{passing, passing_joined}
use Rattle.nested_itp.proofs.NestedRefutations.AddingLaws.{rows_add}

-- The rows of an inside letter's system, which stand in five parts: atoms, the letter's rows, atoms, the bounds of the frame, which
-- the first letter's leaf adds, and those of the written columns. Each row that is added has the number that it has in the word.
pub record InsideRows (v : View) (val : Role → ℤ) (number other : LinearRow → ℤ) (roles : List Role) (rows front block : List LinearRow) (early now : List ℕ) : Type 0 where
  pub source_used : Bool
  pub source : List ℕ
  pub source_rows : List LinearRow
  pub own : List LinearRow
  pub target_used : Bool
  pub target : List ℕ
  pub target_rows : List LinearRow
  pub frame_roles : List Role
  pub frame_rows : List LinearRow
  pub new : List LinearRow
  pub roles_are : roles ≡ atom_roles source_used 0 source ++ (branch_rows (length front) (length own) ++ (atom_roles target_used 1 target ++ (frame_roles ++ branch_rows (length front + length own) (length new))))
  pub rows_are : rows ≡ source_rows ++ (own ++ (target_rows ++ (frame_rows ++ new)))
  pub source_count : length (atom_roles source_used 0 source) ≡ length source_rows
  pub target_count : length (atom_roles target_used 1 target) ≡ length target_rows
  pub frame_count : length frame_roles ≡ length frame_rows
  pub frame_adds : others val number frame_roles frame_rows ≡ passing (is_own v) (λ j. val (branch_row j)) other 0 front early
  pub own_block : List LinearRow
  pub new_block : List LinearRow
  pub own_now : List ℕ
  pub new_now : List ℕ
  pub block_is : block ≡ own_block ++ new_block
  pub now_is : now ≡ own_now ++ new_now
  pub own_same : AllPairs (λ r s. number r ≡ other s) own own_block
  pub new_same : AllPairs (λ r s. number r ≡ other s) new new_block
  pub own_passes : AllPairs (λ r s. is_own v s ≡ true) own_block own_now
  pub new_passes : AllPairs (λ r s. is_own v s ≡ true) new_block new_now

roles_counted : (k count : ℕ) → length (branch_rows k count) ≡ count
roles_counted k zero = refl
roles_counted k (suc count) = ap suc (roles_counted (suc k) count)

pub inside_rows_add : (v : View) (val : Role → ℤ) (number other : LinearRow → ℤ) (roles : List Role) (rows front block : List LinearRow) (early now : List ℕ) →
    InsideRows v val number other roles rows front block early now →
    others val number roles rows ≡ passing (is_own v) (λ j. val (branch_row j)) other 0 front early +ℤ passing (is_own v) (λ j. val (branch_row j)) other (length front) block now
inside_rows_add v val number other roles rows front block early now h =
    let n : ℕ = length front in
    let a : List Role = atom_roles h.source_used 0 h.source in
    let c : List Role = branch_rows n (length h.own) in
    let d : List Role = atom_roles h.target_used 1 h.target in
    let e : List Role = branch_rows (n + length h.own) (length h.new) in
    let whole : others val number roles rows ≡ others val number (a ++ (c ++ (d ++ (h.frame_roles ++ e)))) (h.source_rows ++ (h.own ++ (h.target_rows ++ (h.frame_rows ++ h.new)))) =
    ap (λ (l : List Role). others val number l rows) h.roles_are ∙ ap (others val number (a ++ (c ++ (d ++ (h.frame_roles ++ e))))) h.rows_are in
    let one = others_joined val number a h.source_rows (c ++ (d ++ (h.frame_roles ++ e))) (h.own ++ (h.target_rows ++ (h.frame_rows ++ h.new))) h.source_count in
    let two = others_joined val number c h.own (d ++ (h.frame_roles ++ e)) (h.target_rows ++ (h.frame_rows ++ h.new)) (roles_counted n (length h.own)) in
    let three = others_joined val number d h.target_rows (h.frame_roles ++ e) (h.frame_rows ++ h.new) h.target_count in
    let four = others_joined val number h.frame_roles h.frame_rows e h.new h.frame_count in
    let none = others_atoms val number h.source_used 0 h.source h.source_rows in
    let none_too = others_atoms val number h.target_used 1 h.target h.target_rows in
    let own = rows_add v val number other n h.own h.own_block h.own_now h.own_same h.own_passes in
    let new = rows_add v val number other (n + length h.own) h.new h.new_block h.new_now h.new_same h.new_passes in
    let same : length h.own ≡ length h.own_block = pairs_counted (λ r s. number r ≡ other s) h.own h.own_block h.own_same in
    let stamps : length h.own_now ≡ length h.own_block = sym (pairs_counted (λ r s. is_own v s ≡ true) h.own_block h.own_now h.own_passes) in
    let parts = passing_joined (is_own v) (λ j. val (branch_row j)) other n h.own_block h.own_now h.new_block h.new_now stamps in
    let both : passing (is_own v) (λ j. val (branch_row j)) other n block now ≡ passing (is_own v) (λ j. val (branch_row j)) other n (h.own_block ++ h.new_block) (h.own_now ++ h.new_now) =
    ap (λ (l : List LinearRow). passing (is_own v) (λ j. val (branch_row j)) other n l now) h.block_is ∙ ap (passing (is_own v) (λ j. val (branch_row j)) other n (h.own_block ++ h.new_block)) h.now_is in
    let shifted : passing (is_own v) (λ j. val (branch_row j)) other (n + length h.own) h.new_block h.new_now ≡ passing (is_own v) (λ j. val (branch_row j)) other (n + length h.own_block) h.new_block h.new_now =
    ap (λ (k : ℕ). passing (is_own v) (λ j. val (branch_row j)) other (n + k) h.new_block h.new_now) same in
    let f = h.frame_adds in
    omega (arith, ints, whole, one, two, three, four, none, none_too, own, new, parts, both, shifted, f)
