-- The rows of a return's system and their roles, part by part.
use Rattle.std.proofs.Common.{◌≡◌, ◌∙◌, ℕ, suc, ◌+◌, ℤ, pos, ◌+ℤ◌, Bool, true, false, List, ◌++◌, length, map, sym, ap, arith, append_assoc, Option}
use Rattle.std.specs.Prelude.{not, nat_eq, filter, if◌then◌else◌}
use Rattle.std.proofs.lemmas.Int.{ints}
use Rattle.std.proofs.lemmas.List.{map-append, length-map}
use Rattle.lin_rows.specs.Rows.{LinearRow}
use Rattle.lin_rows.specs.Tightening.{tightened}
use Rattle.letter_acts.specs.Frames.{Columns, constants_of, olds_of, variables_of, result_columns}
use Rattle.letter_acts.specs.Acts.{PlainAct, Alphabet}
use Rattle.letter_acts.specs.Reading.{taken, is_listed}
use Rattle.letter_acts.specs.Invariant.{alphabet_of}
use Rattle.letter_acts.specs.FrameRows.Rows.{bounds, types_at}
use Rattle.letter_acts.specs.FrameRows.Rows.{columns_from, renamed, bounds, types_of, types_at, equal_row}
use Rattle.triple_rows.specs.Predicates.{Formula, prefix_of, formula_of}
use Rattle.triple_rows.specs.Systems.{PlainSystem, said, denied, back_system}
use Rattle.triple_rows.specs.Triples.{return_system_of, back_system_of, system_of}
use Rattle.triple_rows.proofs.FormulaLaws.{prefix_read}
use Rattle.nested_itp.specs.NestedPredicates.Sums.{root_of}
use Rattle.nested_itp.specs.NestedPredicates.Joins.{predicate_at}
use Rattle.nested_itp.specs.NestedRefutations.Refutations.{Claim, exposed, rows_in, Role, spare, branch_row, target_tie, source_tie, atom_roles, is_used}
use Rattle.nested_itp.specs.NestedRefutations.Numbers.{branch_rows, spares, before_bounds, bounds_in, position_here}
use Rattle.nested_itp.proofs.NestedRefutations.RowsLaws.{AllPairs, pairs_joined}
use Rattle.nested_itp.proofs.NestedRefutations.WayLaws.{others, others_joined, others_atoms}
use Rattle.nested_itp.proofs.NestedRefutations.AddingLaws.{spares_add}
use Rattle.nested_itp.proofs.NestedRefutations.VersionLaws.{columns_count}
use Rattle.nested_itp.proofs.NestedRefutations.MovingLaws.{bounds_counted}
use Rattle.nested_itp.proofs.NestedRefutations.TieLaws.{tie_rows, ties_counted}
use Rattle.nested_itp.proofs.NestedRefutations.CallColumnLaws.{caller_in, callee_in}
use Rattle.nested_itp.proofs.NestedRefutations.BackAtLaws.{back_system_rows}
use Rattle.nested_itp.proofs.NestedRefutations.BackColumnLaws.{BackLetter, m_of, n_of, after_of, moved_to, exit_position, after_position, back_written, exit_claim, before_claim, after_claim, back_step_in, back_view, back_first}
use Rattle.nested_itp.proofs.NestedRefutations.BackRowLaws.{back_own_rows, back_frame}

-- ---- eleven lists

eleven_mapped : {X Y : Type 0} (q : X → Y) (a b c d e f h i j k l : List X) →
    map q (a ++ (b ++ (c ++ (d ++ (e ++ (f ++ (h ++ (i ++ (j ++ (k ++ l)))))))))) ≡
    map q a ++ (map q b ++ (map q c ++ (map q d ++ (map q e ++ (map q f ++ (map q h ++ (map q i ++ (map q j ++ (map q k ++ map q l)))))))))
eleven_mapped q a b c d e f h i j k l =
    map-append q a (b ++ (c ++ (d ++ (e ++ (f ++ (h ++ (i ++ (j ++ (k ++ l))))))))) ∙ ap (λ z. map q a ++ z)
    (map-append q b (c ++ (d ++ (e ++ (f ++ (h ++ (i ++ (j ++ (k ++ l)))))))) ∙ ap (λ z. map q b ++ z)
    (map-append q c (d ++ (e ++ (f ++ (h ++ (i ++ (j ++ (k ++ l))))))) ∙ ap (λ z. map q c ++ z)
    (map-append q d (e ++ (f ++ (h ++ (i ++ (j ++ (k ++ l)))))) ∙ ap (λ z. map q d ++ z)
    (map-append q e (f ++ (h ++ (i ++ (j ++ (k ++ l))))) ∙ ap (λ z. map q e ++ z)
    (map-append q f (h ++ (i ++ (j ++ (k ++ l)))) ∙ ap (λ z. map q f ++ z)
    (map-append q h (i ++ (j ++ (k ++ l))) ∙ ap (λ z. map q h ++ z)
    (map-append q i (j ++ (k ++ l)) ∙ ap (λ z. map q i ++ z)
    (map-append q j (k ++ l) ∙ ap (λ z. map q j ++ z) (map-append q k l)))))))))

eleven_joined : {X : Type 0} (a b c d e f h i j k l : List X) →
    a ++ b ++ c ++ d ++ e ++ f ++ h ++ i ++ j ++ k ++ l ≡ a ++ (b ++ (c ++ (d ++ (e ++ (f ++ (h ++ (i ++ (j ++ (k ++ l)))))))))
eleven_joined a b c d e f h i j k l =
    append_assoc (a ++ b ++ c ++ d ++ e ++ f ++ h ++ i ++ j) k l ∙ append_assoc (a ++ b ++ c ++ d ++ e ++ f ++ h ++ i) j (k ++ l) ∙
    append_assoc (a ++ b ++ c ++ d ++ e ++ f ++ h) i (j ++ (k ++ l)) ∙ append_assoc (a ++ b ++ c ++ d ++ e ++ f) h (i ++ (j ++ (k ++ l))) ∙
    append_assoc (a ++ b ++ c ++ d ++ e) f (h ++ (i ++ (j ++ (k ++ l)))) ∙ append_assoc (a ++ b ++ c ++ d) e (f ++ (h ++ (i ++ (j ++ (k ++ l))))) ∙
    append_assoc (a ++ b ++ c) d (e ++ (f ++ (h ++ (i ++ (j ++ (k ++ l)))))) ∙ append_assoc (a ++ b) c (d ++ (e ++ (f ++ (h ++ (i ++ (j ++ (k ++ l))))))) ∙
    append_assoc a b (c ++ (d ++ (e ++ (f ++ (h ++ (i ++ (j ++ (k ++ l))))))))

-- what lists of roles add, part by part
two_others : (val : Role → ℤ) (number : LinearRow → ℤ) (a : List Role) (x : List LinearRow) (more : List Role) (ys : List LinearRow) (z : ℤ) → length a ≡ length x → others val number more ys ≡ z →
    others val number (a ++ more) (x ++ ys) ≡ others val number a x +ℤ z
two_others val number a x more ys z l e = others_joined val number a x more ys l ∙ ap (λ (y : ℤ). others val number a x +ℤ y) e

eleven_others : (val : Role → ℤ) (number : LinearRow → ℤ) (a b c d e f h i j k l : List Role) (a' b' c' d' e' f' h' i' j' k' l' : List LinearRow) →
    length a ≡ length a' → length b ≡ length b' → length c ≡ length c' → length d ≡ length d' → length e ≡ length e' → length f ≡ length f' → length h ≡ length h' → length i ≡ length i' →
    length j ≡ length j' → length k ≡ length k' →
    others val number (a ++ (b ++ (c ++ (d ++ (e ++ (f ++ (h ++ (i ++ (j ++ (k ++ l)))))))))) (a' ++ (b' ++ (c' ++ (d' ++ (e' ++ (f' ++ (h' ++ (i' ++ (j' ++ (k' ++ l')))))))))) ≡
    others val number a a' +ℤ (others val number b b' +ℤ (others val number c c' +ℤ (others val number d d' +ℤ (others val number e e' +ℤ (others val number f f' +ℤ (others val number h h' +ℤ
    (others val number i i' +ℤ (others val number j j' +ℤ (others val number k k' +ℤ others val number l l')))))))))
eleven_others val number a b c d e f h i j k l a' b' c' d' e' f' h' i' j' k' l' p1 p2 p3 p4 p5 p6 p7 p8 p9 p10 =
    two_others val number a a' (b ++ (c ++ (d ++ (e ++ (f ++ (h ++ (i ++ (j ++ (k ++ l))))))))) (b' ++ (c' ++ (d' ++ (e' ++ (f' ++ (h' ++ (i' ++ (j' ++ (k' ++ l'))))))))) _ p1
    (two_others val number b b' (c ++ (d ++ (e ++ (f ++ (h ++ (i ++ (j ++ (k ++ l)))))))) (c' ++ (d' ++ (e' ++ (f' ++ (h' ++ (i' ++ (j' ++ (k' ++ l')))))))) _ p2
    (two_others val number c c' (d ++ (e ++ (f ++ (h ++ (i ++ (j ++ (k ++ l))))))) (d' ++ (e' ++ (f' ++ (h' ++ (i' ++ (j' ++ (k' ++ l'))))))) _ p3
    (two_others val number d d' (e ++ (f ++ (h ++ (i ++ (j ++ (k ++ l)))))) (e' ++ (f' ++ (h' ++ (i' ++ (j' ++ (k' ++ l')))))) _ p4
    (two_others val number e e' (f ++ (h ++ (i ++ (j ++ (k ++ l))))) (f' ++ (h' ++ (i' ++ (j' ++ (k' ++ l'))))) _ p5
    (two_others val number f f' (h ++ (i ++ (j ++ (k ++ l)))) (h' ++ (i' ++ (j' ++ (k' ++ l')))) _ p6
    (two_others val number h h' (i ++ (j ++ (k ++ l))) (i' ++ (j' ++ (k' ++ l'))) _ p7
    (two_others val number i i' (j ++ (k ++ l)) (j' ++ (k' ++ l')) _ p8
    (two_others val number j j' (k ++ l) (k' ++ l') _ p9
    (others_joined val number k k' l l' p10)))))))))

pub eleven_pairs : (P : Role → LinearRow → Type 0) (a b c d e f h i j k l : List Role) (a' b' c' d' e' f' h' i' j' k' l' : List LinearRow) →
    AllPairs P a a' → AllPairs P b b' → AllPairs P c c' → AllPairs P d d' → AllPairs P e e' → AllPairs P f f' → AllPairs P h h' → AllPairs P i i' → AllPairs P j j' → AllPairs P k k' → AllPairs P l l' →
    AllPairs P (a ++ (b ++ (c ++ (d ++ (e ++ (f ++ (h ++ (i ++ (j ++ (k ++ l)))))))))) (a' ++ (b' ++ (c' ++ (d' ++ (e' ++ (f' ++ (h' ++ (i' ++ (j' ++ (k' ++ l'))))))))))
eleven_pairs P a b c d e f h i j k l a' b' c' d' e' f' h' i' j' k' l' p1 p2 p3 p4 p5 p6 p7 p8 p9 p10 p11 =
    pairs_joined P a a' (b ++ (c ++ (d ++ (e ++ (f ++ (h ++ (i ++ (j ++ (k ++ l))))))))) (b' ++ (c' ++ (d' ++ (e' ++ (f' ++ (h' ++ (i' ++ (j' ++ (k' ++ l'))))))))) p1
    (pairs_joined P b b' (c ++ (d ++ (e ++ (f ++ (h ++ (i ++ (j ++ (k ++ l)))))))) (c' ++ (d' ++ (e' ++ (f' ++ (h' ++ (i' ++ (j' ++ (k' ++ l')))))))) p2
    (pairs_joined P c c' (d ++ (e ++ (f ++ (h ++ (i ++ (j ++ (k ++ l))))))) (d' ++ (e' ++ (f' ++ (h' ++ (i' ++ (j' ++ (k' ++ l'))))))) p3
    (pairs_joined P d d' (e ++ (f ++ (h ++ (i ++ (j ++ (k ++ l)))))) (e' ++ (f' ++ (h' ++ (i' ++ (j' ++ (k' ++ l')))))) p4
    (pairs_joined P e e' (f ++ (h ++ (i ++ (j ++ (k ++ l))))) (f' ++ (h' ++ (i' ++ (j' ++ (k' ++ l'))))) p5
    (pairs_joined P f f' (h ++ (i ++ (j ++ (k ++ l)))) (h' ++ (i' ++ (j' ++ (k' ++ l')))) p6
    (pairs_joined P h h' (i ++ (j ++ (k ++ l))) (i' ++ (j' ++ (k' ++ l'))) p7
    (pairs_joined P i i' (j ++ (k ++ l)) (j' ++ (k' ++ l')) p8
    (pairs_joined P j j' (k ++ l) (k' ++ l') p9
    (pairs_joined P k k' l l' p10 p11)))))))))

-- ---- the rows

abbrev pub exit_rows : BackLetter → List LinearRow
exit_rows c = map tightened (rows_in (said (λ x. x) (predicate_at c.call.g c.call.w c.call.t (exit_position c))))

abbrev pub before_rows : BackLetter → List LinearRow
before_rows c = map tightened (rows_in (said (λ x. m_of c + x) (predicate_at c.call.g c.call.w c.call.t (position_here c.call.r))))

abbrev pub after_rows : BackLetter → List LinearRow
after_rows c = map tightened (rows_in (denied (after_of c) (predicate_at c.call.g c.call.w c.call.t (after_position c))))

-- the globals that may change and are no target, and the targets with their results
abbrev pub kept_globals : BackLetter → List ℕ
kept_globals c = filter (λ j. not (is_listed c.targets j)) (variables_of (caller_in c.call))

abbrev pub taken_in : BackLetter → List (ℕ × ℕ)
taken_in c = taken c.targets (result_columns (callee_in c.call))

abbrev pub constant_ties : BackLetter → List LinearRow
constant_ties c = tie_rows (λ x. x) (λ x. m_of c + x) (constants_of (callee_in c.call))

abbrev pub old_ties : BackLetter → List LinearRow
old_ties c = tie_rows (λ o. o.0) (λ o. m_of c + o.1) (olds_of (callee_in c.call))

abbrev pub global_ties : BackLetter → List LinearRow
global_ties c = tie_rows (λ j. after_of c j) (λ j. j) (kept_globals c)

abbrev pub result_ties : BackLetter → List LinearRow
result_ties c = tie_rows (λ p. after_of c p.0) (λ p. p.1) (taken_in c)

abbrev pub exit_bounds : BackLetter → List LinearRow
exit_bounds c = map tightened (bounds 0 (types_of (callee_in c.call)))

abbrev pub written_bounds : BackLetter → List LinearRow
written_bounds c = map tightened (bounds (m_of c + n_of c) (types_at (caller_in c.call) (back_written c)))

back_system_here : (c : BackLetter) → system_of (alphabet_of c.call.g) (back_step_in c).triple ≡
    back_system (caller_in c.call) (callee_in c.call) c.call.rows c.targets (predicate_at c.call.g c.call.w c.call.t (exit_position c)) (predicate_at c.call.g c.call.w c.call.t (position_here c.call.r))
    (predicate_at c.call.g c.call.w c.call.t (after_position c))
back_system_here c =
    let al : Alphabet = alphabet_of c.call.g in
    let f1 : Columns = caller_in c.call in
    let f2 : Columns = callee_in c.call in
    let exit : Formula = predicate_at c.call.g c.call.w c.call.t (exit_position c) in
    let before : Formula = predicate_at c.call.g c.call.w c.call.t (position_here c.call.r) in
    let to : Formula = predicate_at c.call.g c.call.w c.call.t (after_position c) in
    ap (λ (o : Option PlainAct). back_system_of al o (formula_of (prefix_of exit)) (formula_of (prefix_of before)) (formula_of (prefix_of to))) c.there ∙
    ap (λ (o : Option PlainAct). return_system_of al c.targets o (formula_of (prefix_of exit)) (formula_of (prefix_of before)) (formula_of (prefix_of to))) c.call_there ∙
    ap (λ (f : Formula). back_system f1 f2 c.call.rows c.targets f (formula_of (prefix_of before)) (formula_of (prefix_of to))) (prefix_read exit) ∙
    ap (λ (f : Formula). back_system f1 f2 c.call.rows c.targets exit f (formula_of (prefix_of to))) (prefix_read before) ∙
    ap (λ (f : Formula). back_system f1 f2 c.call.rows c.targets exit before f) (prefix_read to)

pub back_first_rows : (c : BackLetter) → (back_first c).rows ≡
    exit_rows c ++ (before_rows c ++ (constant_ties c ++ (old_ties c ++ (back_own_rows c ++ (global_ties c ++ (result_ties c ++ (after_rows c ++ (exit_bounds c ++ (back_frame c ++ written_bounds c)))))))))
back_first_rows c =
    let exit = predicate_at c.call.g c.call.w c.call.t (exit_position c) in
    let before = predicate_at c.call.g c.call.w c.call.t (position_here c.call.r) in
    let to = predicate_at c.call.g c.call.w c.call.t (after_position c) in
    ap (λ (s : PlainSystem). map tightened (rows_in s)) (back_system_here c) ∙
    ap (map tightened) (back_system_rows (caller_in c.call) (callee_in c.call) c.call.rows c.targets exit before to) ∙
    eleven_mapped tightened (rows_in (said (λ x. x) exit)) (rows_in (said (λ x. m_of c + x) before)) (map (λ x. equal_row x (m_of c + x)) (constants_of (callee_in c.call)))
    (map (λ o. equal_row o.0 (m_of c + o.1)) (olds_of (callee_in c.call))) (map (renamed (moved_to c)) c.call.rows) (map (λ j. equal_row (after_of c j) j) (kept_globals c))
    (map (λ p. equal_row (after_of c p.0) p.1) (taken_in c)) (rows_in (denied (after_of c) to)) (bounds 0 (types_of (callee_in c.call))) (bounds (m_of c) (types_of (caller_in c.call)))
    (bounds (m_of c + n_of c) (types_at (caller_in c.call) (back_written c)))

-- ---- their roles

abbrev pub leaves_of : BackLetter → Claim → List ℕ
leaves_of c d = (exposed (back_view c).columns d 0 (root_of c.call.g c.call.w) c.call.t).leaves

abbrev pub claim_roles : BackLetter → ℕ → Claim → List Role
claim_roles c i d = atom_roles (is_used (back_view c) i) i (leaves_of c d)

abbrev pub constant_roles : BackLetter → List Role
constant_roles c = map source_tie (constants_of (callee_in c.call))

abbrev pub old_roles : BackLetter → List Role
old_roles c = map (λ o. source_tie o.0) (olds_of (callee_in c.call))

abbrev pub own_roles : BackLetter → List Role
own_roles c = branch_rows c.call.r.rows (length c.call.rows)

abbrev pub global_roles : BackLetter → List Role
global_roles c = map target_tie (kept_globals c)

abbrev pub result_roles : BackLetter → List Role
result_roles c = map (λ p. target_tie p.0) (taken_in c)

abbrev pub frame_roles : BackLetter → List Role
frame_roles c = before_bounds (suc c.call.r.letters) (caller_in c.call)

abbrev pub exit_spares : BackLetter → List Role
exit_spares c = spares (bounds_in (callee_in c.call))

abbrev pub written_spares : BackLetter → List Role
written_spares c = spares (length (bounds 0 (types_at (caller_in c.call) (back_written c))))

pub back_first_roles : (c : BackLetter) → (back_first c).roles ≡
    claim_roles c 0 (exit_claim c) ++ (claim_roles c 1 (before_claim c) ++ (constant_roles c ++ (old_roles c ++ (own_roles c ++ (global_roles c ++ (result_roles c ++ (claim_roles c 2 (after_claim c) ++
    (exit_spares c ++ (frame_roles c ++ written_spares c)))))))))
back_first_roles c =
    eleven_joined (claim_roles c 0 (exit_claim c)) (claim_roles c 1 (before_claim c)) (constant_roles c) (old_roles c) (own_roles c) (global_roles c) (result_roles c) (claim_roles c 2 (after_claim c)) (exit_spares c) (frame_roles c)
    (written_spares c)

-- the counts of the rows of its claims
pub record BackOpens (c : BackLetter) : Type 0 where
  pub exit_count : length (claim_roles c 0 (exit_claim c)) ≡ length (exit_rows c)
  pub before_count : length (claim_roles c 1 (before_claim c)) ≡ length (before_rows c)
  pub after_count : length (claim_roles c 2 (after_claim c)) ≡ length (after_rows c)

branch_counted : (k n : ℕ) → length (branch_rows k n) ≡ n
branch_counted k n = length-map (columns_from k n) branch_row ∙ columns_count k n

spares_counted : (n : ℕ) → length (spares n) ≡ n
spares_counted n = length-map (columns_from 0 n) (λ r. spare) ∙ columns_count 0 n

pub own_counted : (c : BackLetter) → length c.call.rows ≡ length (back_own_rows c)
own_counted c = sym (length-map c.call.rows (renamed (moved_to c))) ∙ sym (length-map (map (renamed (moved_to c)) c.call.rows) tightened)

pub frame_counted : (c : BackLetter) → length (back_frame c) ≡ bounds_in (caller_in c.call)
frame_counted c = length-map (bounds (m_of c) (types_of (caller_in c.call))) tightened ∙ bounds_counted (m_of c) 0 (types_of (caller_in c.call))

pub exit_counted : (c : BackLetter) → length (exit_bounds c) ≡ bounds_in (callee_in c.call)
exit_counted c = length-map (bounds 0 (types_of (callee_in c.call))) tightened ∙ bounds_counted 0 0 (types_of (callee_in c.call))

pub written_counted : (c : BackLetter) → length (written_bounds c) ≡ length (bounds 0 (types_at (caller_in c.call) (back_written c)))
written_counted c =
    length-map (bounds (m_of c + n_of c) (types_at (caller_in c.call) (back_written c))) tightened ∙ bounds_counted (m_of c + n_of c) 0 (types_at (caller_in c.call) (back_written c))

frame_roles_counted : (c : BackLetter) → length (frame_roles c) ≡ length (back_frame c)
frame_roles_counted c = by_first (nat_eq (suc c.call.r.letters) 1) ∙ sym (frame_counted c)
  where
    by_first : (z : Bool) → length (if z then branch_rows 0 (bounds_in (caller_in c.call)) else spares (bounds_in (caller_in c.call))) ≡ bounds_in (caller_in c.call)
    by_first true = branch_counted 0 (bounds_in (caller_in c.call))
    by_first false = spares_counted (bounds_in (caller_in c.call))

-- what each part adds
pub back_parts_add : (c : BackLetter) → BackOpens c → (val : Role → ℤ) (number : LinearRow → ℤ) → others val number (back_first c).roles (back_first c).rows ≡
    others val number (constant_roles c) (constant_ties c) +ℤ (others val number (old_roles c) (old_ties c) +ℤ (others val number (own_roles c) (back_own_rows c) +ℤ
    (others val number (global_roles c) (global_ties c) +ℤ (others val number (result_roles c) (result_ties c) +ℤ others val number (frame_roles c) (back_frame c)))))
back_parts_add c o val number =
    let whole : others val number (back_first c).roles (back_first c).rows ≡
    others val number (claim_roles c 0 (exit_claim c) ++ (claim_roles c 1 (before_claim c) ++ (constant_roles c ++ (old_roles c ++ (own_roles c ++ (global_roles c ++ (result_roles c ++ (claim_roles c 2 (after_claim c) ++
    (exit_spares c ++ (frame_roles c ++ written_spares c))))))))))
    (exit_rows c ++ (before_rows c ++ (constant_ties c ++ (old_ties c ++ (back_own_rows c ++ (global_ties c ++ (result_ties c ++ (after_rows c ++ (exit_bounds c ++ (back_frame c ++ written_bounds c)))))))))) =
    ap (λ (l : List Role). others val number l (back_first c).rows) (back_first_roles c) ∙
    ap (others val number (claim_roles c 0 (exit_claim c) ++ (claim_roles c 1 (before_claim c) ++ (constant_roles c ++ (old_roles c ++ (own_roles c ++ (global_roles c ++ (result_roles c ++ (claim_roles c 2 (after_claim c) ++
    (exit_spares c ++ (frame_roles c ++ written_spares c))))))))))) (back_first_rows c) in
    let parts = eleven_others val number (claim_roles c 0 (exit_claim c)) (claim_roles c 1 (before_claim c)) (constant_roles c) (old_roles c) (own_roles c) (global_roles c) (result_roles c) (claim_roles c 2 (after_claim c))
    (exit_spares c) (frame_roles c) (written_spares c) (exit_rows c) (before_rows c) (constant_ties c) (old_ties c) (back_own_rows c) (global_ties c) (result_ties c) (after_rows c) (exit_bounds c) (back_frame c) (written_bounds c)
    o.exit_count o.before_count (ties_counted source_tie (λ x. x) (λ x. m_of c + x) (constants_of (callee_in c.call))) (ties_counted (λ p. source_tie p.0) (λ p. p.0) (λ p. m_of c + p.1) (olds_of (callee_in c.call)))
    (branch_counted c.call.r.rows (length c.call.rows) ∙ own_counted c) (ties_counted target_tie (λ j. after_of c j) (λ j. j) (kept_globals c)) (ties_counted (λ p. target_tie p.0) (λ p. after_of c p.0) (λ p. p.1) (taken_in c))
    o.after_count (spares_counted (bounds_in (callee_in c.call)) ∙ sym (exit_counted c)) (frame_roles_counted c) in
    let z1 = others_atoms val number (is_used (back_view c) 0) 0 (leaves_of c (exit_claim c)) (exit_rows c) in
    let z2 = others_atoms val number (is_used (back_view c) 1) 1 (leaves_of c (before_claim c)) (before_rows c) in
    let z8 = others_atoms val number (is_used (back_view c) 2) 2 (leaves_of c (after_claim c)) (after_rows c) in
    let z9 = spares_add val number 0 (bounds_in (callee_in c.call)) (exit_bounds c) in
    let z11 = spares_add val number 0 (length (bounds 0 (types_at (caller_in c.call) (back_written c)))) (written_bounds c) in
    whole ∙ parts ∙ sums_left (others val number (claim_roles c 0 (exit_claim c)) (exit_rows c)) (others val number (claim_roles c 1 (before_claim c)) (before_rows c)) (others val number (constant_roles c) (constant_ties c))
    (others val number (old_roles c) (old_ties c)) (others val number (own_roles c) (back_own_rows c)) (others val number (global_roles c) (global_ties c)) (others val number (result_roles c) (result_ties c))
    (others val number (claim_roles c 2 (after_claim c)) (after_rows c)) (others val number (exit_spares c) (exit_bounds c)) (others val number (frame_roles c) (back_frame c)) (others val number (written_spares c) (written_bounds c))
    z1 z2 z8 z9 z11
  where
    sums_left : (a b c d e f h i j k l : ℤ) → a ≡ pos 0 → b ≡ pos 0 → i ≡ pos 0 → j ≡ pos 0 → l ≡ pos 0 →
        a +ℤ (b +ℤ (c +ℤ (d +ℤ (e +ℤ (f +ℤ (h +ℤ (i +ℤ (j +ℤ (k +ℤ l))))))))) ≡ c +ℤ (d +ℤ (e +ℤ (f +ℤ (h +ℤ k))))
    sums_left a b c d e f h i j k l p q r s t = omega (arith, ints, p, q, r, s, t)
