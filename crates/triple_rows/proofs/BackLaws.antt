-- The system of a return triple: no point meets it exactly where the triple is valid.
use Rattle.std.proofs.Common.{◌≡◌, ◌↔◌, ◌∙◌, ◌⊎◌, ℕ, ◌+◌, ◌-◌, ◌<◌, ◌≤◌, Bool, true, false, not, ℤ, List, [], ◌∷◌, ◌++◌, length, length-append, Some, nat_eq, nat_lt, refl, sym, ap, subst, inl, inr, arith}
use Rattle.std.specs.Prelude.{map, filter, slice_get, ◌||◌, if◌then◌else◌}
use Rattle.std.specs.List.{AllByRecursion}
use Rattle.std.proofs.lemmas.Bool.{lt-ltb, le-ltb, eq-eqb, eqb-true, false≢true}
use Rattle.math_facts.specs.Terms.{IsBelow}
use Rattle.lin_rows.specs.Rows.{LinearRow, Holds}
use Rattle.lin_rows.specs.Points.{point_of}
use Rattle.nwa_base.specs.Members.{Member}
use Rattle.letter_acts.specs.Frames.{Columns, constants_of, variables_of, result_columns, olds_of}
use Rattle.letter_acts.specs.Values.{picked, RowsHold, HoldBeyond}
use Rattle.letter_acts.specs.Reading.{taken, BackReads, is_listed}
use Rattle.letter_acts.specs.Invariant.{call_width, written_by}
use Rattle.letter_acts.proofs.ListLemmas.{below_or_from}
use Rattle.letter_acts.proofs.PointLemmas.{point_of-left, point_of-right, state_length, length-values_from, helpers_as_point}
use Rattle.triple_rows.specs.Predicates.{Formula, FormulaHolds, HasInequalities}
use Rattle.triple_rows.specs.Ties.Known.{BackIsRead}
use Rattle.triple_rows.specs.Systems.{PlainSystem, PlainMeets, after_column, call_column, back_system, said, denied, only_rows}
use Rattle.letter_acts.specs.FrameRows.Rows.{bounds, types_of, types_at, equal_row, renamed}
use Rattle.triple_rows.proofs.ListLaws.{all_from, all_same, all_mapped, all_passed, within}
use Rattle.triple_rows.proofs.SaidLaws.{HasValues, all_met, renamed_holds, state_said, state_heard, state_shown, state_denied}
use Rattle.triple_rows.proofs.RowLaws.{IsTyped, equal_rows, frame_heard, frame_said, written_heard, written_said}
use Rattle.triple_rows.proofs.StateLaws.{point_of-past, picked_at, length-picked, read_state, read_has_values, read_is_state, state_is_typed, after_other, after_has_values, after_is_typed, written_are_typed, joined_agrees, tied, from_zero}

rows_below : (caller callee : Columns) (helpers : ℕ) (rows : List LinearRow) (b x : List ℤ) → length b ≡ length caller → length x ≡ length callee →
    AllByRecursion (λ r. IsBelow (call_width caller callee helpers) r.terms) rows → AllByRecursion (λ r. IsBelow (length (b ++ x) + helpers) r.terms) rows
rows_below caller callee helpers rows b x l k h =
    let a = length-append b x in
    let e : length caller + length callee + helpers ≡ length (b ++ x) + helpers = omega (arith, l, k, a) in
    subst (λ (n : ℕ). AllByRecursion (λ r. IsBelow n r.terms) rows) e h

-- ---- the columns of the call's rows

pub call_first : (m n w c : ℕ) → c < n → call_column m n w c ≡ m + c
call_first m n w c l = ap (λ (t : Bool). if t then m + c else (if nat_lt c (n + m) then c - n else c + w)) (lt-ltb c n l)

pub call_second : (m n w c : ℕ) → n ≤ c → c < n + m → call_column m n w c ≡ c - n
call_second m n w c l k =
    ap (λ (t : Bool). if t then m + c else (if nat_lt c (n + m) then c - n else c + w)) (le-ltb c n l) ∙
    ap (λ (t : Bool). if t then c - n else c + w) (lt-ltb c (n + m) k)

pub call_helper : (m n w c : ℕ) → n + m ≤ c → call_column m n w c ≡ c + w
call_helper m n w c l =
    ap (λ (t : Bool). if t then m + c else (if nat_lt c (n + m) then c - n else c + w)) (le-ltb c n (omega arith)) ∙
    ap (λ (t : Bool). if t then c - n else c + w) (le-ltb c (n + m) l)

renamed_rows : (point : ℕ → ℤ) (to : ℕ → ℕ) (rows : List LinearRow) → AllByRecursion (Holds point) (map (renamed to) rows) ↔ AllByRecursion (Holds (λ c. point (to c))) rows
renamed_rows point to rows =
    let m = all_mapped (Holds point) (renamed to) rows in
    let s = all_same (λ r. Holds point (renamed to r)) (Holds (λ c. point (to c))) (renamed_holds point to) rows in
    (λ h. s.0 (m.0 h), λ h. m.1 (s.1 h))

-- ---- the globals that are no targets

listed_is : (xs : List ℕ) (c : ℕ) → (is_listed xs c ≡ true) ↔ Member xs c
listed_is [] c = (λ e. absurd (false≢true e), λ m. absurd m)
listed_is (d ∷ xs) c = by_test (nat_eq d c) refl (listed_is xs c)
  where
    by_test : (t : Bool) → nat_eq d c ≡ t → (is_listed xs c ≡ true) ↔ Member xs c → ((t || is_listed xs c) ≡ true) ↔ ((d ≡ c) ⊎ Member xs c)
    by_test true e r = (λ h. inl (eqb-true d c e), λ h. refl)
    by_test false e r = (λ h. inr (r.0 h), λ h. elim h [ inl k ↦ absurd (false≢true (sym e ∙ eq-eqb d c k)) | inr m ↦ r.1 m ])

unlisted_is : (xs : List ℕ) (c : ℕ) → (not (is_listed xs c) ≡ true) ↔ (Member xs c → ⊥)
unlisted_is xs c = by_test (is_listed xs c) (listed_is xs c)
  where
    by_test : (t : Bool) → (t ≡ true) ↔ Member xs c → (not t ≡ true) ↔ (Member xs c → ⊥)
    by_test true r = (λ e. absurd (false≢true e), λ n. absurd (n (r.0 refl)))
    by_test false r = (λ e m. false≢true (r.1 m), λ n. refl)

-- ---- the point of a return

-- the point has the callee's state at the exit, the caller's before the call behind it, and the caller's state after
record BackPoint (point : ℕ → ℤ) (caller callee : Columns) (written : List ℕ) (x b t : List ℤ) : Type 0 where
  at_exit : HasValues point (λ c. 0 + c) (length callee) x
  at_call : HasValues point (λ c. length callee + c) (length caller) b
  at_end : HasValues point (after_column (length callee) (length callee + length caller) written) (length caller) t

constants_tied : (point : ℕ → ℤ) (caller callee : Columns) (written : List ℕ) (x b t : List ℤ) → BackPoint point caller callee written x b t →
    AllByRecursion (λ c. (c < length callee) × (c < length caller)) (constants_of callee) →
    AllByRecursion (Holds point) (map (λ c. equal_row c (length callee + c)) (constants_of callee)) ↔ AllByRecursion (λ c. point_of x c ≡ point_of b c) (constants_of callee)
constants_tied point caller callee written x b t p w =
    let e = equal_rows point (λ c. c) (λ c. length callee + c) (constants_of callee) in
    let k = tied point (λ c. c) (λ c. length callee + c) (length callee) (length caller) x b (λ (c : ℕ). c) (λ c. c) (constants_of callee)
    (from_zero point (length callee) x p.at_exit) p.at_call w in
    (λ h. k.0 (e.0 h), λ h. e.1 (k.1 h))

olds_tied : (point : ℕ → ℤ) (caller callee : Columns) (written : List ℕ) (x b t : List ℤ) → BackPoint point caller callee written x b t →
    AllByRecursion (λ o. (o.0 < length callee) × (o.1 < length caller)) (olds_of callee) →
    AllByRecursion (Holds point) (map (λ o. equal_row o.0 (length callee + o.1)) (olds_of callee)) ↔ AllByRecursion (λ o. point_of x o.0 ≡ point_of b o.1) (olds_of callee)
olds_tied point caller callee written x b t p w =
    let e = equal_rows point (λ (o : ℕ × ℕ). o.0) (λ o. length callee + o.1) (olds_of callee) in
    let k = tied point (λ c. c) (λ c. length callee + c) (length callee) (length caller) x b (λ (o : ℕ × ℕ). o.0) (λ o. o.1) (olds_of callee)
    (from_zero point (length callee) x p.at_exit) p.at_call w in
    (λ h. k.0 (e.0 h), λ h. e.1 (k.1 h))

results_tied : (point : ℕ → ℤ) (caller callee : Columns) (written : List ℕ) (x b t : List ℤ) (ps : List (ℕ × ℕ)) → BackPoint point caller callee written x b t →
    AllByRecursion (λ p. (p.0 < length caller) × (p.1 < length callee)) ps →
    AllByRecursion (Holds point) (map (λ p. equal_row (after_column (length callee) (length callee + length caller) written p.0) p.1) ps) ↔
    AllByRecursion (λ p. point_of t p.0 ≡ point_of x p.1) ps
results_tied point caller callee written x b t ps p w =
    let after : ℕ → ℕ = after_column (length callee) (length callee + length caller) written in
    let e = equal_rows point (λ (q : ℕ × ℕ). after q.0) (λ q. q.1) ps in
    let k = tied point after (λ c. c) (length caller) (length callee) t x (λ (q : ℕ × ℕ). q.0) (λ q. q.1) ps p.at_end
    (from_zero point (length callee) x p.at_exit) w in
    (λ h. k.0 (e.0 h), λ h. e.1 (k.1 h))

globals_tied : (point : ℕ → ℤ) (caller callee : Columns) (targets written : List ℕ) (x b t : List ℤ) → BackPoint point caller callee written x b t →
    AllByRecursion (λ g. (g < length caller) × (g < length callee)) (variables_of caller) →
    AllByRecursion (Holds point) (map (λ g. equal_row (after_column (length callee) (length callee + length caller) written g) g)
    (filter (λ g. not (is_listed targets g)) (variables_of caller))) ↔
    AllByRecursion (λ g. (Member targets g → ⊥) → point_of t g ≡ point_of x g) (variables_of caller)
globals_tied point caller callee targets written x b t p w =
    let after : ℕ → ℕ = after_column (length callee) (length callee + length caller) written in
    let v = from_zero point (length callee) x p.at_exit in
    let e = equal_rows point after (λ g. g) (filter (λ g. not (is_listed targets g)) (variables_of caller)) in
    let f = all_passed (λ g. point (after g) ≡ point g) (λ g. not (is_listed targets g)) (variables_of caller) in (
      λ h.
          all_from (λ g. (g < length caller) × (g < length callee)) (λ g. not (is_listed targets g) ≡ true → point (after g) ≡ point g)
          (λ g. (Member targets g → ⊥) → point_of t g ≡ point_of x g)
          (λ g l r n. sym (p.at_end.same g l.0) ∙ r ((unlisted_is targets g).1 n) ∙ v.same g l.1) (variables_of caller) w (f.0 (e.0 h)),
      λ h.
          e.1 (f.1 (all_from (λ g. (g < length caller) × (g < length callee)) (λ g. (Member targets g → ⊥) → point_of t g ≡ point_of x g)
          (λ g. not (is_listed targets g) ≡ true → point (after g) ≡ point g)
          (λ g l r n. p.at_end.same g l.0 ∙ r ((unlisted_is targets g).0 n) ∙ sym (v.same g l.1)) (variables_of caller) w h)),
    )

-- ---- from states to a point

-- a point with these values, and another's behind them, moved by w
abbrev followed_by : List ℤ → (ℕ → ℤ) → ℕ → ℕ → ℤ
followed_by values rest w c = if nat_lt c (length values) then point_of values c else rest (c - w)

followed_below : (values : List ℤ) (rest : ℕ → ℤ) (w c : ℕ) → c < length values → followed_by values rest w c ≡ point_of values c
followed_below values rest w c l = ap (λ (t : Bool). if t then point_of values c else rest (c - w)) (lt-ltb c (length values) l)

followed_past : (values : List ℤ) (rest : ℕ → ℤ) (w c d : ℕ) → length values ≤ c → c ≡ d + w → followed_by values rest w c ≡ rest d
followed_past values rest w c d l e =
    ap (λ (t : Bool). if t then point_of values c else rest (c - w)) (le-ltb c (length values) l) ∙
    ap rest (let k : c - w ≡ d = omega (arith, e) in k)

-- the values of the three states and the helpers
abbrev back_point : List ℤ → List ℤ → List ℤ → (ℕ → ℤ) → ℕ → ℤ
back_point x b news rest = followed_by (x ++ (b ++ news)) rest (length news)

back_exit : (x b news : List ℤ) (rest : ℕ → ℤ) (c : ℕ) → c < length x → back_point x b news rest c ≡ point_of x c
back_exit x b news rest c l =
    followed_below (x ++ (b ++ news)) rest (length news) c (let a = length-append x (b ++ news) in omega (arith, a, l)) ∙ point_of-left x (b ++ news) c l

back_call : (x b news : List ℤ) (rest : ℕ → ℤ) (c k : ℕ) → k < length b → c ≡ length x + k → back_point x b news rest c ≡ point_of b k
back_call x b news rest c k l e =
    followed_below (x ++ (b ++ news)) rest (length news) c
    (let a = length-append x (b ++ news) in let d = length-append b news in omega (arith, a, d, l, e)) ∙
    point_of-right x (b ++ news) c k e ∙ point_of-left b news k l

back_news : (x b news : List ℤ) (rest : ℕ → ℤ) (c k : ℕ) → k < length news → c ≡ length x + length b + k → back_point x b news rest c ≡ point_of news k
back_news x b news rest c k l e =
    followed_below (x ++ (b ++ news)) rest (length news) c
    (let a = length-append x (b ++ news) in let d = length-append b news in omega (arith, a, d, l, e)) ∙
    point_of-right x (b ++ news) c (length b + k) (omega (arith, e)) ∙ point_of-right b news (length b + k) k refl

-- over the columns of the call's rows it is the point with which these hold
back_renamed : (x b news : List ℤ) (rest : ℕ → ℤ) → ((c : ℕ) → c < length (b ++ x) → rest c ≡ point_of (b ++ x) c) →
    (c : ℕ) → rest c ≡ back_point x b news rest (call_column (length x) (length b) (length news) c)
back_renamed x b news rest agrees c = elim (below_or_from c (length b)) [
  | inl l ↦
      (let a = length-append b x in
      agrees c (omega (arith, a, l)) ∙ point_of-left b x c l ∙
      sym (ap (back_point x b news rest) (call_first (length x) (length b) (length news) c l) ∙ back_call x b news rest (length x + c) c l refl))
  | inr h ↦
      elim (below_or_from c (length b + length x)) [
        | inl l ↦
            (let a = length-append b x in
            let e = h.1 in
            agrees c (omega (arith, a, l)) ∙ point_of-right b x c h.0 e ∙
            sym (ap (back_point x b news rest) (call_second (length x) (length b) (length news) c (omega (arith, e)) l) ∙
            ap (back_point x b news rest) (let k : c - length b ≡ h.0 = omega (arith, e) in k) ∙ back_exit x b news rest h.0 (omega (arith, e, l))))
        | inr g ↦
            (let a = length-append x (b ++ news) in
            let d = length-append b news in
            let e = g.1 in
            sym (ap (back_point x b news rest) (call_helper (length x) (length b) (length news) c (omega (arith, e))) ∙
            followed_past (x ++ (b ++ news)) rest (length news) (c + length news) c (omega (arith, a, d, e)) refl))
      ]
]

holds_at : (p q : ℕ → ℤ) (rows : List LinearRow) → ((c : ℕ) → p c ≡ q c) → AllByRecursion (Holds p) rows → AllByRecursion (Holds q) rows
holds_at p q rows e h = let k : p ≡ q = λ i c. e c i in subst (λ (f : ℕ → ℤ). AllByRecursion (Holds f) rows) k h

-- the systems that a return's system has at once
abbrev back_parts : Columns → Columns → List LinearRow → List ℕ → Formula → Formula → Formula → List PlainSystem
back_parts caller callee rows targets exit before to =
    said (λ c. c) exit ∷
    said (λ c. length callee + c) before ∷
    only_rows (map (λ c. equal_row c (length callee + c)) (constants_of callee)) ∷
    only_rows (map (λ o. equal_row o.0 (length callee + o.1)) (olds_of callee)) ∷
    only_rows (map (renamed (call_column (length callee) (length caller) (length (written_by caller targets)))) rows) ∷
    only_rows (map (λ g. equal_row (after_column (length callee) (length callee + length caller) (written_by caller targets) g) g)
    (filter (λ g. not (is_listed targets g)) (variables_of caller))) ∷
    only_rows (map (λ p. equal_row (after_column (length callee) (length callee + length caller) (written_by caller targets) p.0) p.1)
    (taken targets (result_columns callee))) ∷
    denied (after_column (length callee) (length callee + length caller) (written_by caller targets)) to ∷
    only_rows (bounds 0 (types_of callee)) ∷
    only_rows (bounds (length callee) (types_of caller)) ∷
    only_rows (bounds (length callee + length caller) (types_at caller (written_by caller targets))) ∷
    []

back_met : (caller callee : Columns) (helpers : ℕ) (rows : List LinearRow) (targets : List ℕ) (exit before to : Formula) →
    BackIsRead caller callee helpers rows targets exit before to → HasInequalities to →
    ((point : ℕ → ℤ) → PlainMeets point (back_system caller callee rows targets exit before to) → ⊥) →
    (x b t : List ℤ) → BackReads caller callee helpers rows targets x b t → FormulaHolds (point_of x) exit → FormulaHolds (point_of b) before → FormulaHolds (point_of t) to
back_met caller callee helpers rows targets exit before to k i none x b t r hx hb =
    at ((helpers_as_point (b ++ x) helpers rows
    (rows_below caller callee helpers rows b x (state_length caller b r.at_call) (state_length callee x r.at_exit) k.rows_within)).0 r.rows_hold)
  where
    at : HoldBeyond (b ++ x) rows → FormulaHolds (point_of t) to
    at q =
        let written : List ℕ = written_by caller targets in
        let news : List ℤ = picked t written in
        let point : ℕ → ℤ = back_point x b news q.point in
        let lb : length b ≡ length caller = state_length caller b r.at_call in
        let lx : length x ≡ length callee = state_length callee x r.at_exit in
        let ln : length news ≡ length written = length-picked t written in
        let vx : HasValues point (λ c. 0 + c) (length callee) x = record {
          same = λ c l. ap point (let e : 0 + c ≡ c = omega arith in e) ∙ back_exit x b news q.point c (omega (arith, lx, l));
        } in
        let vb : HasValues point (λ c. length callee + c) (length caller) b = record {
          same = λ c l. back_call x b news q.point (length callee + c) c (omega (arith, lb, l)) (omega (arith, lx));
        } in
        let w : (i j c : ℕ) → j ≡ (length callee + length caller) + i → slice_get written i ≡ Some c → point j ≡ point_of t c = λ i j c e g.
        back_news x b news q.point j i (let s = within written i c g in omega (arith, ln, s)) (omega (arith, lx, lb, e)) ∙ picked_at t written i c g in
        let o : (c : ℕ) → (Member written c → ⊥) → point_of t c ≡ point_of b c =
        λ c n. r.others c (λ v. n (k.variables_written c v)) (λ v. n (k.targets_written c v)) in
        let vt : HasValues point (after_column (length callee) (length callee + length caller) written) (length caller) t =
        after_has_values point (length callee) (length callee + length caller) (length caller) written b t k.distinct vb w o in
        let p : BackPoint point caller callee written x b t = record { at_exit = vx; at_call = vb; at_end = vt } in
        let hold : AllByRecursion (Holds point) (map (renamed (call_column (length callee) (length caller) (length written))) rows) =
        (renamed_rows point (call_column (length callee) (length caller) (length written)) rows).1
        (holds_at q.point (λ c. point (call_column (length callee) (length caller) (length written) c)) rows
        (λ c. back_renamed x b news q.point q.agrees c ∙
        ap (λ (n : ℕ). point (call_column n (length b) (length news) c)) lx ∙
        ap (λ (n : ℕ). point (call_column (length callee) n (length news) c)) lb ∙
        ap (λ (n : ℕ). point (call_column (length callee) (length caller) n c)) ln)
        q.hold) in
        state_shown point (after_column (length callee) (length callee + length caller) written) (length caller) t to vt k.to_over i
        (λ d. none point ((all_met point (back_parts caller callee rows targets exit before to)).1 (
          state_said point (λ c. c) (length callee) x exit (from_zero point (length callee) x vx) k.exit_over hx,
          (
            state_said point (λ c. length callee + c) (length caller) b before vb k.before_over hb,
            (
              ((constants_tied point caller callee written x b t p k.ties.constants).1 r.constants, tt),
              (
                ((olds_tied point caller callee written x b t p k.ties.olds).1 r.olds, tt),
                (
                  (hold, tt),
                  (
                    ((globals_tied point caller callee targets written x b t p k.ties.variables).1 r.globals, tt),
                    (
                      ((results_tied point caller callee written x b t (taken targets (result_columns callee)) p k.ties.taken).1 r.results, tt),
                      (
                        d,
                        (
                          (frame_said point 0 callee (state_is_typed point (λ c. 0 + c) callee x vx r.at_exit), tt),
                          (
                            (frame_said point (length callee) caller (state_is_typed point (λ c. length callee + c) caller b vb r.at_call), tt),
                            (
                              (
                                written_said point (length callee + length caller) caller written
                                    (written_are_typed point (length callee + length caller) caller written t r.at_end w),
                                tt,
                              ),
                              tt,
                            ),
                          ),
                        ),
                      ),
                    ),
                  ),
                ),
              ),
            ),
          ),
        )))

-- ---- from a point to states

back_found : (caller callee : Columns) (helpers : ℕ) (rows : List LinearRow) (targets : List ℕ) (exit before to : Formula) →
    BackIsRead caller callee helpers rows targets exit before to → HasInequalities to →
    ((x b t : List ℤ) → BackReads caller callee helpers rows targets x b t → FormulaHolds (point_of x) exit → FormulaHolds (point_of b) before → FormulaHolds (point_of t) to) →
    (point : ℕ → ℤ) → PlainMeets point (back_system caller callee rows targets exit before to) → ⊥
back_found caller callee helpers rows targets exit before to k i valid point met =
    let parts : AllByRecursion (PlainMeets point) (back_parts caller callee rows targets exit before to) =
    (all_met point (back_parts caller callee rows targets exit before to)).0 met in
    let m = length callee in
    let n = length caller in
    let written : List ℕ = written_by caller targets in
    let after : ℕ → ℕ = after_column m (m + n) written in
    let x : List ℤ = read_state point (λ c. 0 + c) m in
    let b : List ℤ = read_state point (λ c. m + c) n in
    let t : List ℤ = read_state point after n in
    let p : BackPoint point caller callee written x b t = record {
      at_exit = read_has_values point (λ c. 0 + c) m;
      at_call = read_has_values point (λ c. m + c) n;
      at_end = read_has_values point after n;
    } in
    let lx : length x ≡ m = length-values_from (λ c. point (0 + c)) 0 m in
    let lb : length b ≡ n = length-values_from (λ c. point (m + c)) 0 n in
    let lt : length t ≡ n = length-values_from (λ c. point (after c)) 0 n in
    let vx : HasValues point (λ c. c) m x = from_zero point m x p.at_exit in
    let typed : IsTyped point (λ c. m + c) caller = frame_heard point m caller parts.1.1.1.1.1.1.1.1.1.0.0 in
    let same : (c : ℕ) → (Member written c → ⊥) → point_of t c ≡ point_of b c = λ c f. elim (below_or_from c n) [
      | inl l ↦ sym (p.at_end.same c l) ∙ ap point (after_other m (m + n) written c f) ∙ p.at_call.same c l
      | inr g ↦ (let e = g.1 in point_of-past t c (omega (arith, lt, e)) ∙ sym (point_of-past b c (omega (arith, lb, e))))
    ] in
    let hold : RowsHold (b ++ x) helpers rows =
    (helpers_as_point (b ++ x) helpers rows (rows_below caller callee helpers rows b x lb lx k.rows_within)).1 (record {
      point = λ c. point (call_column m n (length written) c);
      agrees = joined_agrees (λ c. point (call_column m n (length written) c)) b x
          (λ c l. ap point (call_first m n (length written) c (omega (arith, lb, l))) ∙ p.at_call.same c (omega (arith, lb, l)))
          (λ i c e l.
          ap point (call_second m n (length written) c (omega (arith, lb, e)) (omega (arith, lb, lx, e, l)) ∙ (let q : c - n ≡ i = omega (arith, lb, e) in q)) ∙
          vx.same i (omega (arith, lx, l)));
      hold = (renamed_rows point (call_column m n (length written)) rows).0 parts.1.1.1.1.0.0;
    }) in
    let reads : BackReads caller callee helpers rows targets x b t = record {
      at_exit = read_is_state point (λ c. 0 + c) callee (frame_heard point 0 callee parts.1.1.1.1.1.1.1.1.0.0);
      at_call = read_is_state point (λ c. m + c) caller typed;
      at_end = read_is_state point after caller
          (after_is_typed point m (m + n) caller written k.distinct typed (written_heard point (m + n) caller written parts.1.1.1.1.1.1.1.1.1.1.0.0));
      constants = (constants_tied point caller callee written x b t p k.ties.constants).0 parts.1.1.0.0;
      olds = (olds_tied point caller callee written x b t p k.ties.olds).0 parts.1.1.1.0.0;
      rows_hold = hold;
      globals = (globals_tied point caller callee targets written x b t p k.ties.variables).0 parts.1.1.1.1.1.0.0;
      results = (results_tied point caller callee written x b t (taken targets (result_columns callee)) p k.ties.taken).0 parts.1.1.1.1.1.1.0.0;
      others = λ c f g. same c (λ h. elim (k.written_are c h) [ inl v ↦ f v | inr v ↦ g v ]);
    } in
    state_denied point after n t to p.at_end k.to_over i parts.1.1.1.1.1.1.1.0
    (valid x b t reads (state_heard point (λ c. c) m x exit vx k.exit_over parts.0) (state_heard point (λ c. m + c) n b before p.at_call k.before_over parts.1.0))

pub back_exact : (caller callee : Columns) (helpers : ℕ) (rows : List LinearRow) (targets : List ℕ) (exit before to : Formula) →
    BackIsRead caller callee helpers rows targets exit before to → HasInequalities to →
    ((point : ℕ → ℤ) → PlainMeets point (back_system caller callee rows targets exit before to) → ⊥) ↔
    ((x b t : List ℤ) → BackReads caller callee helpers rows targets x b t → FormulaHolds (point_of x) exit → FormulaHolds (point_of b) before → FormulaHolds (point_of t) to)
back_exact caller callee helpers rows targets exit before to k i =
    (back_met caller callee helpers rows targets exit before to k i, back_found caller callee helpers rows targets exit before to k i)
