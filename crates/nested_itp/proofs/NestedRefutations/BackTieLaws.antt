-- At a leaf of a return's triple: the sums of its claims, and what its ties add.
use Rattle.std.proofs.Common.{◌≡◌, ◌∙◌, ◌⊎◌, inl, inr, ℕ, suc, ◌+◌, ◌*◌, ◌<◌, ◌≤◌, ℤ, pos, neg_ℤ, Bool, true, false, List, refl, sym, ap, subst, arith, Option, None, Some}
use Rattle.std.specs.Prelude.{not, ◌&&◌, slice_get, slice_index, IsSomeAnd, ◌-ℤ◌}
use Rattle.std.specs.List.{AllByRecursion}
use Rattle.std.proofs.lemmas.Int.{ints}
use Rattle.math_facts.specs.Terms.{coefficient}
use Rattle.boogie_tree.specs.declared.tree.Column.{Column}
use Rattle.boogie_tree.specs.declared.tree.Column.TheVariants.{Global, Old, Local}
use Rattle.boogie_tree.specs.declared.tree.VarInfo.{VarInfo}
use Rattle.nwa_base.specs.Members.{Member}
use Rattle.letter_acts.specs.Frames.{Columns, globals_from, is_global_column, is_old_column, is_fixed_column, is_variable, is_local, is_result, constants_of, variables_of, result_columns, olds_of}
use Rattle.letter_acts.specs.Invariant.{AreDistinct, MayTarget}
use Rattle.letter_acts.proofs.ListLemmas.{all_member, all_from_members, some_within}
use Rattle.letter_acts.proofs.FrameLemmas.{variables_are, constants_are, variable_below}
use Rattle.path_rows.proofs.LayoutLemmas.{length-globals_from}
use Rattle.path_rows.proofs.OpenLemmas.{at_place}
use Rattle.path_rows.proofs.DifferLemmas.{places_distinct}
use Rattle.letter_acts.specs.Reading.{is_listed}
use Rattle.triple_rows.proofs.ListLaws.{places_below}
use Rattle.nested_itp.specs.NestedPredicates.Positions.{known_at, if_constant_version, innermost, Position}
use Rattle.nested_itp.specs.NestedPredicates.Sums.{Branch, column_upto, known_sum, coefficients_at}
use Rattle.nested_itp.specs.NestedRefutations.Refutations.{Role, target_tie, source_tie, multiplier}
use Rattle.nested_itp.proofs.NestedRefutations.WayLaws.{others}
use Rattle.nested_itp.proofs.NestedRefutations.ClaimLaws.{IsTold}
use Rattle.nested_itp.proofs.NestedRefutations.ColumnLaws.{known_in, number_at, claim_at, claim_off}
use Rattle.nested_itp.proofs.NestedRefutations.TieLaws.{AreTies, ties_off, ties_first, ties_second}
use Rattle.nested_itp.proofs.NestedRefutations.CallAtLaws.{entry_of}
use Rattle.nested_itp.proofs.NestedRefutations.CallColumnLaws.{caller_in, callee_in, width, heads, olds, locals, made, lay, caller_long, callee_long, heads_within, entry_long, entry_global, entry_local}
use Rattle.nested_itp.proofs.NestedRefutations.CallLeafLaws.{from_member, claim_sum, number_got}
use Rattle.nested_itp.proofs.NestedRefutations.ReturningLaws.{olds_in, old_place, known_get, known_constant, known_variable, old_column, slice_some}
use Rattle.nested_itp.proofs.NestedRefutations.WrittenLaws.{passed, passes, passed_apart, map_apart, map_id, variable_written, target_written, listed_member, member_listed, taken_parts, firsts_apart, seconds_apart, after_place, after_apart}
use Rattle.nested_itp.proofs.NestedRefutations.BackColumnLaws.{BackLetter, exit_position, after_position, back_written, m_of, n_of, w_of, after_of, exit_claim, before_claim, after_claim, back_view, exit_long}
use Rattle.nested_itp.proofs.NestedRefutations.BackSumLaws.{kept_globals, taken_in, constant_ties, old_ties, global_ties, result_ties, constant_roles, old_roles, global_roles, result_roles}
use Rattle.nested_itp.proofs.NestedRefutations.BackLeafLaws.{after_long, result_behind}

-- ---- the claims

pub exit_told : (c : BackLetter) → IsTold (exit_claim c)
exit_told c i j l m e = e

pub before_told : (c : BackLetter) → IsTold (before_claim c)
before_told c i j l m e = omega (arith, e)

pub after_told : (c : BackLetter) → IsTold (after_claim c)
after_told c i j l m e =
    let long = after_long c in
    after_apart (n_of c) (m_of c) (m_of c + n_of c) (back_written c) (omega arith) i j (omega (arith, l, long)) (omega (arith, m, long)) e

-- their sums at the columns of their frames
abbrev pub exit_sum : BackLetter → Branch → List (ℕ × ℤ) → ℕ → ℤ
exit_sum c b parts j =
    column_upto b parts (suc (2 * c.r.letters)) (slice_index c.r.stage.here j) -ℤ known_sum b parts (2 * suc c.call.r.letters) (known_in (exit_position c).scope.known j)

abbrev pub before_sum : BackLetter → Branch → List (ℕ × ℤ) → ℕ → ℤ
before_sum c b parts j =
    column_upto b parts (suc (2 * c.call.r.letters)) (slice_index c.call.r.stage.here j) -ℤ known_sum b parts (innermost c.call.r.scopes).own (known_in (innermost c.call.r.scopes).known j)

abbrev pub after_sum : BackLetter → Branch → List (ℕ × ℤ) → ℕ → ℤ
after_sum c b parts j =
    column_upto b parts (suc (2 * suc c.r.letters)) (slice_index (after_position c).here j) -ℤ known_sum b parts (innermost c.call.r.scopes).own (known_in (innermost c.call.r.scopes).known j)

pub exit_at : (c : BackLetter) (b : Branch) (parts : List (ℕ × ℤ)) (x : ℕ) → x < m_of c → claim_sum (exit_claim c) b parts x ≡ exit_sum c b parts x
exit_at c b parts x l = let long = exit_long c in claim_at (exit_claim c) b parts (exit_told c) x (omega (arith, l, long))

pub exit_off : (c : BackLetter) (b : Branch) (parts : List (ℕ × ℤ)) (x : ℕ) → m_of c ≤ x → claim_sum (exit_claim c) b parts x ≡ pos 0
exit_off c b parts x l = claim_off (exit_claim c) b parts x (λ j k e. (let long = exit_long c in omega (arith, l, k, e, long)))

pub before_at : (c : BackLetter) (b : Branch) (parts : List (ℕ × ℤ)) (j : ℕ) → j < width c.call → claim_sum (before_claim c) b parts (m_of c + j) ≡ before_sum c b parts j
before_at c b parts j l = claim_at (before_claim c) b parts (before_told c) j l

pub before_off : (c : BackLetter) (b : Branch) (parts : List (ℕ × ℤ)) (x : ℕ) → (x < m_of c) ⊎ (m_of c + n_of c ≤ x) → claim_sum (before_claim c) b parts x ≡ pos 0
before_off c b parts x h = claim_off (before_claim c) b parts x (λ j k e. off j k e h)
  where
    off : (j : ℕ) → j < width c.call → m_of c + j ≡ x → (x < m_of c) ⊎ (m_of c + n_of c ≤ x) → ⊥
    off j k e (inl l) = omega (arith, e, l)
    off j k e (inr l) = let a = caller_long c.call in omega (arith, e, l, k, a)

pub after_at_column : (c : BackLetter) (b : Branch) (parts : List (ℕ × ℤ)) (j : ℕ) → j < n_of c → claim_sum (after_claim c) b parts (after_of c j) ≡ after_sum c b parts j
after_at_column c b parts j l = let long = after_long c in claim_at (after_claim c) b parts (after_told c) j (omega (arith, l, long))

pub after_off : (c : BackLetter) (b : Branch) (parts : List (ℕ × ℤ)) (x : ℕ) → ((j : ℕ) → j < n_of c → after_of c j ≡ x → ⊥) → claim_sum (after_claim c) b parts x ≡ pos 0
after_off c b parts x off = claim_off (after_claim c) b parts x (λ j k e. (let long = after_long c in off j (omega (arith, k, long)) e))

-- they are the multipliers of ties
pub source_times : (c : BackLetter) (n : ℕ) (b : Branch) (parts : List (ℕ × ℤ)) (j : ℕ) → j < m_of c → multiplier (back_view c) n b parts (source_tie j) ≡ neg_ℤ (exit_sum c b parts j)
source_times c n b parts j l =
    let long = exit_long c in
    let q : Position = exit_position c in
    ap neg_ℤ (number_got (coefficients_at b parts q) j ∙ number_at b parts q.scope.own q.upto q.here q.scope.known j (omega (arith, l, long)))

pub target_times : (c : BackLetter) (n : ℕ) (b : Branch) (parts : List (ℕ × ℤ)) (j : ℕ) → j < n_of c → multiplier (back_view c) n b parts (target_tie j) ≡ after_sum c b parts j
target_times c n b parts j l =
    let long = after_long c in
    let q : Position = after_position c in
    number_got (coefficients_at b parts q) j ∙ number_at b parts q.scope.own q.upto q.here q.scope.known j (omega (arith, l, long))

-- ---- constants and globals

pub same_variables : (c : BackLetter) → variables_of (caller_in c.call) ≡ variables_of (callee_in c.call)
same_variables c = variables_are c.call.at.infos (caller_in c.call) c.call.at.from_frame ∙ sym (variables_are c.call.at.infos (callee_in c.call) c.call.at.to_frame)

pub same_constants : (c : BackLetter) → constants_of (callee_in c.call) ≡ constants_of (caller_in c.call)
same_constants c = constants_are c.call.at.infos (callee_in c.call) c.call.at.to_frame ∙ sym (constants_are c.call.at.infos (caller_in c.call) c.call.at.from_frame)

pub constant_below : (c : BackLetter) (x : ℕ) → Member (constants_of (callee_in c.call)) x → x < heads c.call
constant_below c x m =
    all_member (λ y. y < heads c.call) (constants_of (callee_in c.call)) x m
    (subst (AllByRecursion (λ y. y < heads c.call)) (sym (constants_are c.call.at.infos (callee_in c.call) c.call.at.to_frame))
    (places_below is_fixed_column 0 (heads c.call) (globals_from 0 c.call.at.infos) (let n = length-globals_from 0 c.call.at.infos in omega (arith, n))))

pub variable_head : (c : BackLetter) (x : ℕ) → Member (variables_of (caller_in c.call)) x → x < heads c.call
variable_head c x m = variable_below c.call.at.infos (caller_in c.call) c.call.at.from_frame x m

pub heads_in : (c : BackLetter) → (heads c.call ≤ m_of c) × (heads c.call ≤ n_of c)
heads_in c =
    let k = callee_long c.call in
    let w = heads_within c.call in
    let a = caller_long c.call in
    (omega (arith, k), omega (arith, w, a))

-- a constant is no global that may change
pub constant_no_variable : (c : BackLetter) (j : ℕ) → Member (constants_of (callee_in c.call)) j → Member (variables_of (callee_in c.call)) j → ⊥
constant_no_variable c j m h =
    let p = at_place is_fixed_column 0 (callee_in c.call) j m in
    let q = at_place is_variable 0 (callee_in c.call) j h in
    let i : p.0 ≡ q.0 = (let a = p.2 in let d = q.2 in omega (arith, a, d)) in
    let e : Some p.1 ≡ Some q.1 = sym p.3 ∙ ap (slice_get (callee_in c.call)) i ∙ q.3 in
    clash p.1 q.1 (same_one p.1 q.1 e) p.4 q.4
  where
    same_one : (u v : Column × VarInfo) → Some u ≡ Some v → u ≡ v
    same_one u v e = cc

    both : (x y : Bool) → (x && y) ≡ true → (x && not y) ≡ true → ⊥
    both true true e f = absurd (cc)
    both true false e f = absurd (cc)
    both false y e f = absurd (cc)

    clash : (u v : Column × VarInfo) → u ≡ v → is_fixed_column u ≡ true → is_variable v ≡ true → ⊥
    clash u v e a d = both (is_global_column v.0) v.1.constant (subst (λ (z : Column × VarInfo). is_fixed_column z ≡ true) e a) d

-- a global that may change may be a target
pub variable_target : (frame : Columns) (j : ℕ) → Member (variables_of frame) j → MayTarget frame j
variable_target frame j m =
    let p = at_place is_variable 0 frame j m in
    let e : p.0 ≡ j = (let k = p.2 in omega (arith, k)) in
    subst (λ (o : Option (Column × VarInfo)). IsSomeAnd o (λ v. (v.1.constant ≡ false) × (is_old_column v.0 ≡ false))) (sym p.3 ∙ ap (slice_get frame) e) (may p.1 p.4)
  where
    may : (v : Column × VarInfo) → is_variable v ≡ true → (v.1.constant ≡ false) × (is_old_column v.0 ≡ false)
    may (d, info) e = by_column d e
      where
        by_constant : (z : Bool) → not z ≡ true → z ≡ false
        by_constant true e = absurd (cc)
        by_constant false e = refl

        by_column : (d : Column) → is_variable (d, info) ≡ true → (info.constant ≡ false) × (is_old_column d ≡ false)
        by_column (Global g) e = (by_constant info.constant e, refl)
        by_column (Old g) e = absurd (cc)
        by_column (Local l) e = absurd (cc)

-- ---- where columns that are written stand

pub written_range : (c : BackLetter) (j : ℕ) → Member (back_written c) j → (m_of c + n_of c ≤ after_of c j) × (after_of c j < m_of c + n_of c + w_of c)
written_range c j m =
    let p = after_place (m_of c) (m_of c + n_of c) (back_written c) j m in
    let e = p.2 in
    let l = p.1 in
    (omega (arith, e), omega (arith, e, l))

pub kept_variable : (c : BackLetter) (j : ℕ) → Member (kept_globals c) j → Member (variables_of (caller_in c.call)) j × (Member c.targets j → ⊥)
kept_variable c j m =
    let p = passed (λ x. not (is_listed c.targets x)) (variables_of (caller_in c.call)) j m in
    (p.0, λ t. clash (is_listed c.targets j) (member_listed c.targets j t) p.1)
  where
    clash : (z : Bool) → z ≡ true → not z ≡ true → ⊥
    clash true e f = absurd (cc)
    clash false e f = absurd (cc)

pub variable_kept : (c : BackLetter) (j : ℕ) → Member (variables_of (caller_in c.call)) j → (Member c.targets j → ⊥) → Member (kept_globals c) j
variable_kept c j m n = passes (λ x. not (is_listed c.targets x)) (variables_of (caller_in c.call)) j m (not_listed (is_listed c.targets j) refl)
  where
    not_listed : (z : Bool) → is_listed c.targets j ≡ z → not z ≡ true
    not_listed true e = absurd (n (listed_member c.targets j e))
    not_listed false e = refl

pub kept_range : (c : BackLetter) (j : ℕ) → Member (kept_globals c) j → (j < heads c.call) × ((m_of c + n_of c ≤ after_of c j) × (after_of c j < m_of c + n_of c + w_of c))
kept_range c j m =
    let v = (kept_variable c j m).0 in
    (variable_head c j v, written_range c j (variable_written (caller_in c.call) c.targets j v))

pub target_below : (c : BackLetter) (t : ℕ) → Member c.targets t → t < n_of c
target_below c t m = some_within (λ v. (v.1.constant ≡ false) × (is_old_column v.0 ≡ false)) (caller_in c.call) t (all_member (MayTarget (caller_in c.call)) c.targets t m c.acted.may_target)

pub taken_range : (c : BackLetter) (p : ℕ × ℕ) → Member (taken_in c) p → (p.0 < n_of c) × ((m_of c + n_of c ≤ after_of c p.0) × (after_of c p.0 < m_of c + n_of c + w_of c)) × ((heads c.call + olds c.call ≤ p.1) × (p.1 < m_of c))
taken_range c p m =
    let h = taken_parts c.targets (result_columns (callee_in c.call)) p m in
    (target_below c p.0 h.0, written_range c p.0 (target_written (caller_in c.call) c.targets p.0 c.acted.may_target h.0), result_behind c p.1 h.1)

-- ---- ties of constants

abbrev pub constants_tied : BackLetter → (Role → ℤ) → ℕ → ℤ
constants_tied c val x = others val (λ r. coefficient x r.terms) (constant_roles c) (constant_ties c)

pub constants_tie : (c : BackLetter) → AreTies (λ x. x) (λ x. m_of c + x) (constants_of (callee_in c.call))
constants_tie c =
    all_from_members (λ x. x ≡ m_of c + x → ⊥) (constants_of (callee_in c.call)) (λ x m e. (let b = constant_below c x m in let k = (heads_in c).0 in omega (arith, e, b, k)))

pub constant_first : (c : BackLetter) (val : Role → ℤ) (x : ℕ) → Member (constants_of (callee_in c.call)) x → constants_tied c val x ≡ val (source_tie x)
constant_first c val x m =
    let b = constant_below c x m in
    let k = (heads_in c).0 in
    ties_first val source_tie (λ y. y) (λ y. m_of c + y) x (constants_of (callee_in c.call)) (constants_tie c) m
    (subst AreDistinct (sym (map_id (constants_of (callee_in c.call)))) (places_distinct is_fixed_column 0 (callee_in c.call)))
    (all_from_members (λ y. m_of c + y ≡ x → ⊥) (constants_of (callee_in c.call)) (λ y h e. omega (arith, e, b, k)))

pub constant_second : (c : BackLetter) (val : Role → ℤ) (x : ℕ) → Member (constants_of (callee_in c.call)) x → constants_tied c val (m_of c + x) ≡ neg_ℤ (val (source_tie x))
constant_second c val x m =
    ties_second val source_tie (λ y. y) (λ y. m_of c + y) x (constants_of (callee_in c.call)) (constants_tie c) m
    (map_apart (λ y. y) (λ y. m_of c + y) (constants_of (callee_in c.call)) (subst AreDistinct (sym (map_id (constants_of (callee_in c.call)))) (places_distinct is_fixed_column 0 (callee_in c.call)))
    (λ y z h k e. omega (arith, e)))
    (all_from_members (λ y. y ≡ m_of c + x → ⊥) (constants_of (callee_in c.call)) (λ y h e. (let b = constant_below c y h in let k = (heads_in c).0 in omega (arith, e, b, k))))

pub constant_off : (c : BackLetter) (val : Role → ℤ) (x : ℕ) → ((y : ℕ) → Member (constants_of (callee_in c.call)) y → (y ≡ x → ⊥) × (m_of c + y ≡ x → ⊥)) → constants_tied c val x ≡ pos 0
constant_off c val x off =
    ties_off val source_tie (λ y. y) (λ y. m_of c + y) x (constants_of (callee_in c.call)) (constants_tie c)
    (all_from_members (λ y. (y ≡ x → ⊥) × (m_of c + y ≡ x → ⊥)) (constants_of (callee_in c.call)) off)

-- ---- ties of old columns

abbrev pub olds_tied : BackLetter → (Role → ℤ) → ℕ → ℤ
olds_tied c val x = others val (λ r. coefficient x r.terms) (old_roles c) (old_ties c)

-- an old column stands behind the globals, and its global before them
pub old_range : (c : BackLetter) (o : ℕ × ℕ) → Member (olds_of (callee_in c.call)) o → (heads c.call ≤ o.0) × (o.0 < heads c.call + olds c.call) × (o.1 < heads c.call)
old_range c o m =
    let p = old_place c.call o m in
    let e = p.column in
    let l = p.within in
    (omega (arith, e), omega (arith, e, l), p.global)

pub olds_tie : (c : BackLetter) → AreTies (λ o. o.0) (λ o. m_of c + o.1) (olds_of (callee_in c.call))
olds_tie c =
    all_from_members (λ o. o.0 ≡ m_of c + o.1 → ⊥) (olds_of (callee_in c.call)) (λ o m e. (let b = (old_range c o m).1 in let k = callee_long c.call in omega (arith, e, b, k)))

pub old_first : (c : BackLetter) (val : Role → ℤ) (o : ℕ × ℕ) → Member (olds_of (callee_in c.call)) o → olds_tied c val o.0 ≡ val (source_tie o.0)
old_first c val o m =
    let b = (old_range c o m).1 in
    let k = callee_long c.call in
    ties_first val (λ p. source_tie p.0) (λ p. p.0) (λ p. m_of c + p.1) o (olds_of (callee_in c.call)) (olds_tie c) m (olds_in c.call).firsts
    (all_from_members (λ p. m_of c + p.1 ≡ o.0 → ⊥) (olds_of (callee_in c.call)) (λ p h e. omega (arith, e, b, k)))

pub old_second : (c : BackLetter) (val : Role → ℤ) (o : ℕ × ℕ) → Member (olds_of (callee_in c.call)) o → olds_tied c val (m_of c + o.1) ≡ neg_ℤ (val (source_tie o.0))
old_second c val o m =
    ties_second val (λ p. source_tie p.0) (λ p. p.0) (λ p. m_of c + p.1) o (olds_of (callee_in c.call)) (olds_tie c) m
    (map_apart (λ p. p.1) (λ p. m_of c + p.1) (olds_of (callee_in c.call)) (olds_in c.call).seconds (λ p q h k e. omega (arith, e)))
    (all_from_members (λ p. p.0 ≡ m_of c + o.1 → ⊥) (olds_of (callee_in c.call)) (λ p h e. (let b = (old_range c p h).1 in let k = callee_long c.call in omega (arith, e, b, k))))

pub old_off : (c : BackLetter) (val : Role → ℤ) (x : ℕ) → ((o : ℕ × ℕ) → Member (olds_of (callee_in c.call)) o → (o.0 ≡ x → ⊥) × (m_of c + o.1 ≡ x → ⊥)) → olds_tied c val x ≡ pos 0
old_off c val x off =
    ties_off val (λ p. source_tie p.0) (λ p. p.0) (λ p. m_of c + p.1) x (olds_of (callee_in c.call)) (olds_tie c)
    (all_from_members (λ p. (p.0 ≡ x → ⊥) × (m_of c + p.1 ≡ x → ⊥)) (olds_of (callee_in c.call)) off)

-- ---- ties of globals that are no targets

abbrev pub globals_tied : BackLetter → (Role → ℤ) → ℕ → ℤ
globals_tied c val x = others val (λ r. coefficient x r.terms) (global_roles c) (global_ties c)

pub globals_tie : (c : BackLetter) → AreTies (λ j. after_of c j) (λ j. j) (kept_globals c)
globals_tie c =
    all_from_members (λ j. after_of c j ≡ j → ⊥) (kept_globals c) (λ j m e. (let r = kept_range c j m in let b = r.0 in let l = r.1.0 in let k = (heads_in c).0 in omega (arith, e, b, l, k)))

-- columns of the frame after it that stand in one column are one
pub one_after : (c : BackLetter) (i j : ℕ) → i < n_of c → j < n_of c → after_of c i ≡ after_of c j → i ≡ j
one_after c i j l m e = after_apart (n_of c) (m_of c) (m_of c + n_of c) (back_written c) (omega arith) i j l m e

kept_apart : (c : BackLetter) → AreDistinct (kept_globals c)
kept_apart c = passed_apart (λ x. not (is_listed c.targets x)) (variables_of (caller_in c.call)) (places_distinct is_variable 0 (caller_in c.call))

pub global_first : (c : BackLetter) (val : Role → ℤ) (j : ℕ) → Member (kept_globals c) j → globals_tied c val (after_of c j) ≡ val (target_tie j)
global_first c val j m =
    let low = (kept_range c j m).1.0 in
    ties_first val target_tie (λ i. after_of c i) (λ i. i) j (kept_globals c) (globals_tie c) m
    (map_apart (λ i. i) (λ i. after_of c i) (kept_globals c) (subst AreDistinct (sym (map_id (kept_globals c))) (kept_apart c))
    (λ i k p q e. (let a = (kept_range c i p).0 in let b = (kept_range c k q).0 in let w = (heads_in c).1 in one_after c i k (omega (arith, a, w)) (omega (arith, b, w)) e)))
    (all_from_members (λ i. i ≡ after_of c j → ⊥) (kept_globals c) (λ i h e. (let a = (kept_range c i h).0 in let k = (heads_in c).0 in omega (arith, e, a, k, low))))

pub global_second : (c : BackLetter) (val : Role → ℤ) (j : ℕ) → Member (kept_globals c) j → globals_tied c val j ≡ neg_ℤ (val (target_tie j))
global_second c val j m =
    let b = (kept_range c j m).0 in
    ties_second val target_tie (λ i. after_of c i) (λ i. i) j (kept_globals c) (globals_tie c) m
    (subst AreDistinct (sym (map_id (kept_globals c))) (kept_apart c))
    (all_from_members (λ i. after_of c i ≡ j → ⊥) (kept_globals c) (λ i h e. (let a = (kept_range c i h).1.0 in let k = (heads_in c).0 in omega (arith, e, a, k, b))))

pub global_off : (c : BackLetter) (val : Role → ℤ) (x : ℕ) → ((j : ℕ) → Member (kept_globals c) j → (after_of c j ≡ x → ⊥) × (j ≡ x → ⊥)) → globals_tied c val x ≡ pos 0
global_off c val x off =
    ties_off val target_tie (λ i. after_of c i) (λ i. i) x (kept_globals c) (globals_tie c)
    (all_from_members (λ i. (after_of c i ≡ x → ⊥) × (i ≡ x → ⊥)) (kept_globals c) off)

-- ---- ties of targets and results

abbrev pub results_tied : BackLetter → (Role → ℤ) → ℕ → ℤ
results_tied c val x = others val (λ r. coefficient x r.terms) (result_roles c) (result_ties c)

pub results_tie : (c : BackLetter) → AreTies (λ p. after_of c p.0) (λ p. p.1) (taken_in c)
results_tie c =
    all_from_members (λ p. after_of c p.0 ≡ p.1 → ⊥) (taken_in c) (λ p m e. (let r = taken_range c p m in let a = r.1.0 in let b = r.2.1 in omega (arith, e, a, b)))

pub result_first : (c : BackLetter) (val : Role → ℤ) (p : ℕ × ℕ) → Member (taken_in c) p → results_tied c val (after_of c p.0) ≡ val (target_tie p.0)
result_first c val p m =
    let low = (taken_range c p m).1.0 in
    ties_first val (λ q. target_tie q.0) (λ q. after_of c q.0) (λ q. q.1) p (taken_in c) (results_tie c) m
    (map_apart (λ q. q.0) (λ q. after_of c q.0) (taken_in c) (firsts_apart c.targets (result_columns (callee_in c.call)) c.acted.distinct)
    (λ q r h k e. one_after c q.0 r.0 (taken_range c q h).0 (taken_range c r k).0 e))
    (all_from_members (λ q. q.1 ≡ after_of c p.0 → ⊥) (taken_in c) (λ q h e. (let b = (taken_range c q h).2.1 in omega (arith, e, b, low))))

pub result_second : (c : BackLetter) (val : Role → ℤ) (p : ℕ × ℕ) → Member (taken_in c) p → results_tied c val p.1 ≡ neg_ℤ (val (target_tie p.0))
result_second c val p m =
    let b = (taken_range c p m).2.1 in
    ties_second val (λ q. target_tie q.0) (λ q. after_of c q.0) (λ q. q.1) p (taken_in c) (results_tie c) m
    (seconds_apart c.targets (result_columns (callee_in c.call)) (places_distinct is_result 0 (callee_in c.call)))
    (all_from_members (λ q. after_of c q.0 ≡ p.1 → ⊥) (taken_in c) (λ q h e. (let a = (taken_range c q h).1.0 in omega (arith, e, a, b))))

pub result_off : (c : BackLetter) (val : Role → ℤ) (x : ℕ) → ((p : ℕ × ℕ) → Member (taken_in c) p → (after_of c p.0 ≡ x → ⊥) × (p.1 ≡ x → ⊥)) → results_tied c val x ≡ pos 0
result_off c val x off =
    ties_off val (λ q. target_tie q.0) (λ q. after_of c q.0) (λ q. q.1) x (taken_in c) (results_tie c)
    (all_from_members (λ q. (after_of c q.0 ≡ x → ⊥) × (q.1 ≡ x → ⊥)) (taken_in c) off)

-- ---- by which versions the sum at the exit speaks of the caller

exit_known : (c : BackLetter) (j : ℕ) (v : Column × VarInfo) → slice_get (callee_in c.call) j ≡ Some v → j < m_of c →
    known_in (exit_position c).scope.known j ≡ known_at v.0 v.1.constant (slice_index (entry_of c.call.g c.call.r c.call.callee c.call.helpers) j) c.call.r.stage.here
exit_known c j v e l = let n = entry_long c.call in known_get (callee_in c.call) (entry_of c.call.g c.call.r c.call.callee c.call.helpers) c.call.r.stage.here j v e (omega (arith, l, n))

sum_by : (c : BackLetter) (b : Branch) (parts : List (ℕ × ℤ)) (j : ℕ) (o : Option ℕ) → known_in (exit_position c).scope.known j ≡ o →
    exit_sum c b parts j ≡ column_upto b parts (suc (2 * c.r.letters)) (slice_index c.r.stage.here j) -ℤ known_sum b parts (2 * suc c.call.r.letters) o
sum_by c b parts j o e = ap (λ (k : Option ℕ). column_upto b parts (suc (2 * c.r.letters)) (slice_index c.r.stage.here j) -ℤ known_sum b parts (2 * suc c.call.r.letters) k) e

no_known : (z : ℤ) → z -ℤ pos 0 ≡ z
no_known z = omega (arith, ints)

-- of a global that may change
pub exit_variable : (c : BackLetter) (b : Branch) (parts : List (ℕ × ℤ)) (j : ℕ) → Member (variables_of (callee_in c.call)) j → exit_sum c b parts j ≡ column_upto b parts (suc (2 * c.r.letters)) (slice_index c.r.stage.here j)
exit_variable c b parts j m =
    let p = at_place is_variable 0 (callee_in c.call) j m in
    let i : j ≡ p.0 = (let q = p.2 in omega (arith, q)) in
    let l = variable_below c.call.at.infos (callee_in c.call) c.call.at.to_frame j m in
    let k = (heads_in c).0 in
    let known = exit_known c j p.1 (ap (slice_get (callee_in c.call)) i ∙ p.3) (omega (arith, l, k)) ∙
    known_variable p.1 (slice_index (entry_of c.call.g c.call.r c.call.callee c.call.helpers) j) c.call.r.stage.here p.4 in
    sum_by c b parts j None known ∙ no_known (column_upto b parts (suc (2 * c.r.letters)) (slice_index c.r.stage.here j))

-- a column that stays has the version of the entry
kept_at : (c : BackLetter) (j : ℕ) (v : Column × VarInfo) → slice_get (callee_in c.call) j ≡ Some v → (v.1.constant ≡ true) ⊎ (is_old_column v.0 ≡ true) →
    slice_index c.r.stage.here j ≡ slice_index (entry_of c.call.g c.call.r c.call.callee c.call.helpers) j
kept_at c j v e h = c.kept j (subst (λ (o : Option (Column × VarInfo)). IsSomeAnd o (λ u. (u.1.constant ≡ true) ⊎ (is_old_column u.0 ≡ true))) (sym e) h)

second_true : (x y : Bool) → (x && y) ≡ true → y ≡ true
second_true true y e = e
second_true false y e = absurd (cc)

-- of a constant, which has one version
pub constant_version : (c : BackLetter) (j : ℕ) → Member (constants_of (callee_in c.call)) j → slice_index c.r.stage.here j ≡ slice_index c.call.r.stage.here j
constant_version c j m =
    let p = at_place is_fixed_column 0 (callee_in c.call) j m in
    let i : j ≡ p.0 = (let q = p.2 in omega (arith, q)) in
    kept_at c j p.1 (ap (slice_get (callee_in c.call)) i ∙ p.3) (inl (second_true (is_global_column p.1.0) p.1.1.constant p.4)) ∙ entry_global c.call j (constant_below c j m)

pub exit_constant : (c : BackLetter) (b : Branch) (parts : List (ℕ × ℤ)) (j : ℕ) → Member (constants_of (callee_in c.call)) j → exit_sum c b parts j ≡
    column_upto b parts (suc (2 * c.r.letters)) (slice_index c.call.r.stage.here j) -ℤ column_upto b parts (2 * suc c.call.r.letters) (slice_index c.call.r.stage.here j)
exit_constant c b parts j m =
    let p = at_place is_fixed_column 0 (callee_in c.call) j m in
    let i : j ≡ p.0 = (let q = p.2 in omega (arith, q)) in
    let l = constant_below c j m in
    let k = (heads_in c).0 in
    let known : known_in (exit_position c).scope.known j ≡ Some (slice_index (entry_of c.call.g c.call.r c.call.callee c.call.helpers) j) =
    exit_known c j p.1 (ap (slice_get (callee_in c.call)) i ∙ p.3) (omega (arith, l, k)) ∙ known_constant p.1 (slice_index (entry_of c.call.g c.call.r c.call.callee c.call.helpers) j) c.call.r.stage.here p.4 in
    sum_by c b parts j (Some (slice_index (entry_of c.call.g c.call.r c.call.callee c.call.helpers) j)) known ∙
    ap (λ (y : ℕ). column_upto b parts (suc (2 * c.r.letters)) y -ℤ column_upto b parts (2 * suc c.call.r.letters) (slice_index (entry_of c.call.g c.call.r c.call.callee c.call.helpers) j)) (constant_version c j m) ∙
    ap (λ (y : ℕ). column_upto b parts (suc (2 * c.r.letters)) (slice_index c.call.r.stage.here j) -ℤ column_upto b parts (2 * suc c.call.r.letters) y) (entry_global c.call j l)

-- of an old column
pub exit_old : (c : BackLetter) (b : Branch) (parts : List (ℕ × ℤ)) (o : ℕ × ℕ) → Member (olds_of (callee_in c.call)) o → exit_sum c b parts o.0 ≡
    column_upto b parts (suc (2 * c.r.letters)) (slice_index c.r.stage.here o.0) -ℤ column_upto b parts (2 * suc c.call.r.letters) (slice_index c.call.r.stage.here o.1)
exit_old c b parts o m =
    let q = old_column 0 (callee_in c.call) o m in
    let i : o.0 ≡ q.0 = (let a = q.2 in omega (arith, a)) in
    let r = old_range c o m in
    let high = r.1 in
    let g = r.2 in
    let k = callee_long c.call in
    let w = heads_within c.call in
    let known : known_in (exit_position c).scope.known o.0 ≡ Some (slice_index c.call.r.stage.here o.1) =
    exit_known c o.0 q.1 (ap (slice_get (callee_in c.call)) i ∙ q.3) (omega (arith, high, k)) ∙
    ap (λ (d : Column). known_at d q.1.1.constant (slice_index (entry_of c.call.g c.call.r c.call.callee c.call.helpers) o.0) c.call.r.stage.here) q.4 ∙ slice_some c.call.r.stage.here o.1 (omega (arith, g, w)) in
    sum_by c b parts o.0 (Some (slice_index c.call.r.stage.here o.1)) known

-- of a local: a parameter has the version that the call made
pub record LocalAt (c : BackLetter) (i : ℕ) : Type 0 where
  pub column : Column × VarInfo
  pub there : slice_get (callee_in c.call) (heads c.call + (olds c.call + i)) ≡ Some column
  pub is : is_local column ≡ true

pub local_at : (c : BackLetter) (i : ℕ) → i < locals c.call → LocalAt c i
local_at c i l =
    let j : ℕ = heads c.call + (olds c.call + i) in
    let q = at_place is_local 0 (callee_in c.call) j
    (subst (λ (xs : List ℕ). Member xs j) (sym (lay c.call).local_places) (from_member (heads c.call + olds c.call) (locals c.call) j (omega arith) (omega (arith, l)))) in
    record { column = q.1; there = ap (slice_get (callee_in c.call)) (let a = q.2 in let s : j ≡ q.0 = omega (arith, a) in s) ∙ q.3; is = q.4 }

local_known : (v : Column × VarInfo) → is_local v ≡ true → (y : ℕ) (before : List ℕ) → known_at v.0 v.1.constant y before ≡ if_constant_version v.1.constant y
local_known (d, info) h y before = by_column d h
  where
    by_column : (d : Column) → is_local (d, info) ≡ true → known_at d info.constant y before ≡ if_constant_version info.constant y
    by_column (Global g) h = refl
    by_column (Old g) h = absurd (cc)
    by_column (Local g) h = refl

pub exit_parameter : (c : BackLetter) (b : Branch) (parts : List (ℕ × ℤ)) (i : ℕ) → i < locals c.call → (h : LocalAt c i) → h.column.1.constant ≡ true → exit_sum c b parts (heads c.call + (olds c.call + i)) ≡
    column_upto b parts (suc (2 * c.r.letters)) (slice_index c.r.stage.here (heads c.call + (olds c.call + i))) -ℤ column_upto b parts (2 * suc c.call.r.letters) (made c.call + i)
exit_parameter c b parts i l h k =
    let j : ℕ = heads c.call + (olds c.call + i) in
    let n = callee_long c.call in
    let y : ℕ = slice_index (entry_of c.call.g c.call.r c.call.callee c.call.helpers) j in
    let known : known_in (exit_position c).scope.known j ≡ Some y =
    exit_known c j h.column h.there (omega (arith, l, n)) ∙ local_known h.column h.is y c.call.r.stage.here ∙ ap (λ (z : Bool). if_constant_version z y) k in
    sum_by c b parts j (Some y) known ∙
    ap (λ (z : ℕ). column_upto b parts (suc (2 * c.r.letters)) (slice_index c.r.stage.here j) -ℤ column_upto b parts (2 * suc c.call.r.letters) z) (entry_local c.call j i refl l)

pub exit_local : (c : BackLetter) (b : Branch) (parts : List (ℕ × ℤ)) (i : ℕ) → i < locals c.call → (h : LocalAt c i) → h.column.1.constant ≡ false →
    exit_sum c b parts (heads c.call + (olds c.call + i)) ≡ column_upto b parts (suc (2 * c.r.letters)) (slice_index c.r.stage.here (heads c.call + (olds c.call + i)))
exit_local c b parts i l h k =
    let j : ℕ = heads c.call + (olds c.call + i) in
    let n = callee_long c.call in
    let y : ℕ = slice_index (entry_of c.call.g c.call.r c.call.callee c.call.helpers) j in
    let known : known_in (exit_position c).scope.known j ≡ None =
    exit_known c j h.column h.there (omega (arith, l, n)) ∙ local_known h.column h.is y c.call.r.stage.here ∙ ap (λ (z : Bool). if_constant_version z y) k in
    sum_by c b parts j None known ∙ no_known (column_upto b parts (suc (2 * c.r.letters)) (slice_index c.r.stage.here j))

-- ---- the caller's own sums speak of no column that may be a target

known_none : (b : Branch) (parts : List (ℕ × ℤ)) (own : ℕ) (o : Option ℕ) → o ≡ None → known_sum b parts own o ≡ pos 0
known_none b parts own None e = refl
known_none b parts own (Some v) e = absurd (cc)

pub unknown_caller : (c : BackLetter) (b : Branch) (parts : List (ℕ × ℤ)) (j : ℕ) → MayTarget (caller_in c.call) j → known_sum b parts (innermost c.call.r.scopes).own (known_in (innermost c.call.r.scopes).known j) ≡ pos 0
unknown_caller c b parts j may = known_none b parts (innermost c.call.r.scopes).own (known_in (innermost c.call.r.scopes).known j) (c.unknown j may)
