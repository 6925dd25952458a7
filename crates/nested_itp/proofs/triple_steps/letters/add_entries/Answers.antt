use Rattle.std.proofs.Common.{◌≡◌, ◌∙◌, ◌++◌, List, ℕ, length, map, refl, ap, rules}
use Rattle.letter_acts.specs.Frames.{olds_of}
use Rattle.nested_itp.specs.NestedRefutations.Refutations.{Role, opposite_tie}
use Rattle.nested_itp.specs.NestedRefutations.Numbers.{branch_rows}
use Rattle.nested_itp.specs.declared.triple_steps.sections.Tie.TheVariants.{Opposite}
use Rattle.nested_itp.specs.declared.triple_steps.sections.Section.{Section}
use Rattle.nested_itp.specs.declared.triple_steps.sections.Section.TheVariants.{Rows, Tie}
use Rattle.nested_itp.proofs.TripleSteps.RoleLaws.{adds_section, adds_tied, adds_then, adds_else, on_ok}
use Rattle.nested_itp.proofs.triple_steps.letters.add_entries.Goals as goal

pub returns-then-returns : goal.returns-then-returns
returns-then-returns c =
    let old : List Section = c.args.sections.now.items in
    let new : List Section = c.tie_entries.new.sections.items in
    let tied : List Role = map (λ (o : ℕ × ℕ). opposite_tie o.1) (olds_of c.args.callee.now) in
    let rows : List Role = branch_rows c.args.first (length (olds_of c.args.callee.now)) in
    on_ok (new ≡ old ++ map (λ (o : ℕ × ℕ). Tie (Opposite o.1)) c.deref.result.now) _
    (λ e. adds_then c.args.returns old new tied rows c.if-returns.true
    (adds_tied old new (λ (o : ℕ × ℕ). Opposite o.1) (olds_of c.args.callee.now)
    (e ∙ ap (λ (l : List (ℕ × ℕ)). old ++ map (λ (o : ℕ × ℕ). Tie (Opposite o.1)) l) (c.deref.ensures.value ∙ c.in_ok-olds.ensures)))) c.tie_entries.result c.tie_entries.ensures

pub returns : goal.returns
returns c =
    let old : List Section = c.args.sections.now.items in
    let new : List Section = c.push.new.self.items in
    let tied : List Role = map (λ (o : ℕ × ℕ). opposite_tie o.1) (olds_of c.args.callee.now) in
    let rows : List Role = branch_rows c.args.first (length (olds_of c.args.callee.now)) in
    let count : c.len.result ≡ length c.in_ok-olds.olds.items = search rules in
    adds_else c.args.returns old new tied rows c.if-returns.false
    (adds_section old new (Rows c.args.first c.len.result) rows c.in_ok-push.ensures.items refl
    (λ g w t v. ap (branch_rows c.args.first) (count ∙ ap (λ (l : List (ℕ × ℕ)). length l) c.in_ok-olds.ensures)))
