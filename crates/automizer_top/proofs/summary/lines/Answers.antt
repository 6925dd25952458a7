use Rattle.std.proofs.Common.{◌∙◌, ◌++◌, ℕ, List, ap, codes}
use Rattle.automizer_top.specs.Summary.{head_lines, count_line}
use Rattle.automizer_top.proofs.SummaryLaws.{five_written}
use Rattle.automizer_top.proofs.summary.lines.Goals as goal

pub returns : goal.returns
returns c =
    ap (λ v. v.items) c.into_bytes.ensures.value ∙
    five_written (head_lines c.args.count c.args.word.now) (count_line (codes "procedures ") c.args.procedures) (count_line (codes "places ") c.args.places)
    (count_line (codes "letters ") c.args.letters) (count_line (codes "assertions ") c.args.count) _ _ _ _ _
    (c.in_ok-add_head.ensures ∙ ap (λ (bytes : List ℕ). bytes ++ head_lines c.args.count c.args.word.now) c.new-text.ensures.bytes)
    c.in_ok-add_count.ensures c.in_ok-add_count-2.ensures c.in_ok-add_count-3.ensures c.in_ok-add_count-4.ensures
