-- The order of columns: transitive, and of two different columns exactly one stands first.
use Rattle.std.proofs.Common.{◌≡◌, ℕ, Bool, true, false, ap, refl, arith, nat_lt}
use Rattle.std.proofs.lemmas.Bool.{ltb-true, ltb-false, lt-ltb, le-ltb}
use Rattle.boogie_tree.specs.declared.tree.Column.{Column}
use Rattle.boogie_tree.specs.declared.tree.Column.TheVariants.{Global, Old, Local}
use Rattle.typed_tree.specs.AffineForm.{is_before}

not_both : (a b : ℕ) → nat_lt a b ≡ true → nat_lt b a ≡ false
not_both a b e = le-ltb b a (omega (arith, ltb-true a b e))

trans_lt : (a b c : ℕ) → nat_lt a b ≡ true → nat_lt b c ≡ true → nat_lt a c ≡ true
trans_lt a b c e f = lt-ltb a c (omega (arith, ltb-true a b e, ltb-true b c f))

neither : (a b : ℕ) → nat_lt a b ≡ false → nat_lt b a ≡ false → a ≡ b
neither a b e f = omega (arith, ltb-false a b e, ltb-false b a f)

pub before_one_way : (a b : Column) → is_before a b ≡ true → is_before b a ≡ false
before_one_way (Global a) (Global b) e = not_both a b e
before_one_way (Global a) (Old b) e = refl
before_one_way (Global a) (Local b) e = refl
before_one_way (Old a) (Global b) e = absurd (cc)
before_one_way (Old a) (Old b) e = not_both a b e
before_one_way (Old a) (Local b) e = refl
before_one_way (Local a) (Global b) e = absurd (cc)
before_one_way (Local a) (Old b) e = absurd (cc)
before_one_way (Local a) (Local b) e = not_both a b e

pub same_place : (a b : Column) → is_before a b ≡ false → is_before b a ≡ false → a ≡ b
same_place (Global a) (Global b) e f = ap Global (neither a b e f)
same_place (Global a) (Old b) e f = absurd (cc)
same_place (Global a) (Local b) e f = absurd (cc)
same_place (Old a) (Global b) e f = absurd (cc)
same_place (Old a) (Old b) e f = ap Old (neither a b e f)
same_place (Old a) (Local b) e f = absurd (cc)
same_place (Local a) (Global b) e f = absurd (cc)
same_place (Local a) (Old b) e f = absurd (cc)
same_place (Local a) (Local b) e f = ap Local (neither a b e f)

pub before_trans : (a b c : Column) → is_before a b ≡ true → is_before b c ≡ true → is_before a c ≡ true
before_trans (Global a) (Global b) (Global c) e f = trans_lt a b c e f
before_trans (Global a) (Global b) (Old c) e f = refl
before_trans (Global a) (Global b) (Local c) e f = refl
before_trans (Global a) (Old b) (Global c) e f = absurd (cc)
before_trans (Global a) (Old b) (Old c) e f = refl
before_trans (Global a) (Old b) (Local c) e f = refl
before_trans (Global a) (Local b) (Global c) e f = absurd (cc)
before_trans (Global a) (Local b) (Old c) e f = refl
before_trans (Global a) (Local b) (Local c) e f = refl
before_trans (Old a) (Global b) c e f = absurd (cc)
before_trans (Old a) (Old b) (Global c) e f = absurd (cc)
before_trans (Old a) (Old b) (Old c) e f = trans_lt a b c e f
before_trans (Old a) (Old b) (Local c) e f = refl
before_trans (Old a) (Local b) (Global c) e f = absurd (cc)
before_trans (Old a) (Local b) (Old c) e f = absurd (cc)
before_trans (Old a) (Local b) (Local c) e f = refl
before_trans (Local a) (Global b) c e f = absurd (cc)
before_trans (Local a) (Old b) c e f = absurd (cc)
before_trans (Local a) (Local b) (Global c) e f = absurd (cc)
before_trans (Local a) (Local b) (Old c) e f = absurd (cc)
before_trans (Local a) (Local b) (Local c) e f = trans_lt a b c e f
