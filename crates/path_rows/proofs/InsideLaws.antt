-- The rows of an inside letter hold at a point exactly where it leads from the state that the point has to the next.
use Rattle.std.proofs.Common.{◌≡◌, ◌↔◌, ◌∙◌, ℕ, ◌+◌, ◌<◌, ℤ, List, ◌++◌, length, refl, sym, ap, subst, arith, append_assoc, length-append}
use Rattle.std.specs.Prelude.{false}
use Rattle.std.specs.List.{AllByRecursion}
use Rattle.std.proofs.lemmas.List.{map-append}
use Rattle.math_facts.specs.Terms.{IsBelow}
use Rattle.lin_rows.specs.Rows.{LinearRow, Holds}
use Rattle.lin_rows.specs.Points.{point_of}
use Rattle.letter_acts.specs.Frames.{Columns, IsState}
use Rattle.letter_acts.specs.Acts.{Alphabet, frame_of}
use Rattle.letter_acts.specs.Values.{picked}
use Rattle.letter_acts.specs.Invariant.{MayWrite, InsideIsActed, inside_width}
use Rattle.letter_acts.proofs.ListLemmas.{all_weaker, some_within}
use Rattle.letter_acts.proofs.PointLemmas.{state_length, picked_put}
use Rattle.letter_acts.specs.FrameRows.Rows.{bounds, types_at, columns_from}
use Rattle.path_rows.specs.Versions.{PathStage, part_rows, inside_part}
use Rattle.path_rows.specs.Solutions.{read, InsideObeyed}
use Rattle.path_rows.proofs.ListLemmas.{all_joined, columns_split, length-columns_from, length-read, length-read_from, read_written}
use Rattle.path_rows.proofs.RowLemmas.{rows_read, AreTyped, written_read, put_typed, picked_typed}

-- the columns of the letter's rows
abbrev names : PathStage → ℕ → List ℕ
names p count = p.here ++ columns_from p.made count

names_read : (point : ℕ → ℤ) (p : PathStage) (w h : ℕ) →
    read point (names p (w + h)) ≡ (read point p.here ++ read point (columns_from p.made w)) ++ read point (columns_from (p.made + w) h)
names_read point p w h =
    map-append point p.here (columns_from p.made (w + h)) ∙
    ap (λ (l : List ℕ). read point p.here ++ read point l) (columns_split p.made w h (p.made + w) refl) ∙
    ap (λ (l : List ℤ). read point p.here ++ l) (map-append point (columns_from p.made w) (columns_from (p.made + w) h)) ∙
    sym (append_assoc (read point p.here) (read point (columns_from p.made w)) (read point (columns_from (p.made + w) h)))

-- the letter's own rows, over the state before, the new values and the helpers
own_read : (point : ℕ → ℤ) (al : Alphabet) (q : ℕ) (written : List ℕ) (helpers : ℕ) (rows : List LinearRow) (p : PathStage) →
    InsideIsActed al q written helpers rows → length p.here ≡ length (frame_of al q) →
    AllByRecursion (Holds point) (inside_part (frame_of al q) written helpers rows p).own ↔
    AllByRecursion (Holds (point_of ((read point p.here ++ read point (columns_from p.made (length written))) ++ read point (columns_from (p.made + length written) helpers)))) rows
own_read point al q written helpers rows p act l =
    let a = length-append p.here (columns_from p.made (length written + helpers)) in
    let b = length-columns_from p.made (length written + helpers) in
    let e : inside_width (frame_of al q) written helpers ≡ length (names p (length written + helpers)) = omega (arith, l, a, b) in
    let w = rows_read point (names p (length written + helpers)) rows (subst (λ (n : ℕ). AllByRecursion (λ r. IsBelow n r.terms) rows) e act.within) in
    let n = names_read point p (length written) helpers in (
      λ h. subst (λ (v : List ℤ). AllByRecursion (Holds (point_of v)) rows) n (w.0 h),
      λ h. w.1 (subst (λ (v : List ℤ). AllByRecursion (Holds (point_of v)) rows) (sym n) h),
    )

pub inside_heard : (point : ℕ → ℤ) (al : Alphabet) (q : ℕ) (written : List ℕ) (helpers : ℕ) (rows : List LinearRow) (p : PathStage) →
    InsideIsActed al q written helpers rows → IsState (frame_of al q) (read point p.here) →
    AllByRecursion (Holds point) (part_rows (inside_part (frame_of al q) written helpers rows p)) → InsideObeyed point (frame_of al q) written helpers rows p
inside_heard point al q written helpers rows p act s h =
    let l : length p.here ≡ length (frame_of al q) = sym (length-read point p.here) ∙ state_length (frame_of al q) (read point p.here) s in
    let j = (all_joined (Holds point) (inside_part (frame_of al q) written helpers rows p).own (bounds p.made (types_at (frame_of al q) written))).0 h in
    let put = read_written point p.here written (columns_from p.made (length written)) in
    record {
      leads = record {
        before = s;
        after = subst (IsState (frame_of al q)) (sym put)
            (put_typed (frame_of al q) (read point p.here) written (read point (columns_from p.made (length written))) s
            ((written_read point p.made (frame_of al q) written).0 j.1));
        news = read point (columns_from p.made (length written));
        as_many = length-read_from point p.made (length written);
        put = put;
        rows_hold = record {
          helpers = read point (columns_from (p.made + length written) helpers);
          as_many = length-read_from point (p.made + length written) helpers;
          hold = (own_read point al q written helpers rows p act l).0 j.0;
        };
      };
      news = refl;
      helped = refl;
    }

written_within : (frame : Columns) (n : ℕ) (written : List ℕ) → n ≡ length frame → AllByRecursion (MayWrite frame) written → AllByRecursion (λ c. c < n) written
written_within frame n written l h =
    all_weaker (MayWrite frame) (λ c. c < n) (λ c k. let w = some_within (λ v. v.1.constant ≡ false) frame c k in omega (arith, w, l)) written h

pub inside_said : (point : ℕ → ℤ) (al : Alphabet) (q : ℕ) (written : List ℕ) (helpers : ℕ) (rows : List LinearRow) (p : PathStage) →
    InsideIsActed al q written helpers rows → InsideObeyed point (frame_of al q) written helpers rows p →
    AllByRecursion (Holds point) (part_rows (inside_part (frame_of al q) written helpers rows p))
inside_said point al q written helpers rows p act h =
    let s : List ℤ = read point p.here in
    let ls : length s ≡ length (frame_of al q) = state_length (frame_of al q) s h.leads.before in
    let l : length p.here ≡ length (frame_of al q) = sym (length-read point p.here) ∙ ls in
    let t : List ℤ = read point (inside_part (frame_of al q) written helpers rows p).after.here in
    let values : (s ++ h.leads.news) ++ h.leads.rows_hold.helpers ≡
    (s ++ read point (columns_from p.made (length written))) ++ read point (columns_from (p.made + length written) helpers) =
    ap (λ (v : List ℤ). (s ++ v) ++ h.leads.rows_hold.helpers) h.news ∙
    ap (λ (v : List ℤ). (s ++ read point (columns_from p.made (length written))) ++ v) h.helped in
    let picks : picked t written ≡ read point (columns_from p.made (length written)) =
    ap (λ (v : List ℤ). picked v written) h.leads.put ∙
    picked_put s written h.leads.news act.distinct (written_within (frame_of al q) (length s) written ls act.may_write) h.leads.as_many ∙ h.news in
    (all_joined (Holds point) (inside_part (frame_of al q) written helpers rows p).own (bounds p.made (types_at (frame_of al q) written))).1 (
      (own_read point al q written helpers rows p act l).1 (subst (λ (v : List ℤ). AllByRecursion (Holds (point_of v)) rows) values h.leads.rows_hold.hold),
      (written_read point p.made (frame_of al q) written).1 (subst (AreTyped (frame_of al q) written) picks (picked_typed (frame_of al q) t written h.leads.after)),
    )
