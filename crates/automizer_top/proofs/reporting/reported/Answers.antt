use Rattle.std.proofs.Common.{◌≡◌, map, Some, ap, arith}
use Rattle.std.specs.String.{string_bytes}
use Rattle.automizer_top.specs.CommandLine.{Big, requested}
use Rattle.automizer_top.specs.Ties.Asked.{asked, settings}
use Rattle.automizer_top.specs.Ties.Answers.{Asks, answered}
use Rattle.text_reports.specs.ReportTexts.{Answer}
use Rattle.automizer_top.specs.Report.{Ask}
use Rattle.automizer_top.proofs.UsageLaws.{asks_by, asks_texts, asks_big, used_by_code, used_by_summary}
use Rattle.automizer_top.proofs.BigLaws.{big_reported, big_built, no_check, no_verdict, unbuilt}
use Rattle.automizer_top.proofs.RankingWords.{no_ranking}
use Rattle.automizer_top.proofs.reporting.reported.Goals as goal

pub returns-in-Texts-clause-reported : goal.returns-in-Texts-clause-reported
returns-in-Texts-clause-reported g c =
    let ask : requested (map string_bytes c.args.words.now) ≡ Some (asked c.in-Some.request) =
    asks_by (map string_bytes c.args.words.now) c.in_ok-request.field-0 c.in-Some.request c.in-Some.is c.in_ok-request.ensures.value in
    let texts : Asks (map string_bytes c.args.words.now) c.in-Texts.mode c.in-Some.request.options = asks_texts (map string_bytes c.args.words.now) c.in-Some.request c.in-Texts.mode c.in-Texts.is ask in
    c.reported_on_texts.ensures.reported (map string_bytes c.args.words.now) texts

pub returns-in-Texts-clause-accepted : goal.returns-in-Texts-clause-accepted
returns-in-Texts-clause-accepted g c =
    let ask : requested (map string_bytes c.args.words.now) ≡ Some (asked c.in-Some.request) =
    asks_by (map string_bytes c.args.words.now) c.in_ok-request.field-0 c.in-Some.request c.in-Some.is c.in_ok-request.ensures.value in
    let texts : Asks (map string_bytes c.args.words.now) c.in-Texts.mode c.in-Some.request.options = asks_texts (map string_bytes c.args.words.now) c.in-Some.request c.in-Texts.mode c.in-Texts.is ask in
    c.reported_on_texts.ensures.accepted (map string_bytes c.args.words.now) texts

pub returns-in-Texts-clause-verified : goal.returns-in-Texts-clause-verified
returns-in-Texts-clause-verified g c =
    let ask : requested (map string_bytes c.args.words.now) ≡ Some (asked c.in-Some.request) =
    asks_by (map string_bytes c.args.words.now) c.in_ok-request.field-0 c.in-Some.request c.in-Some.is c.in_ok-request.ensures.value in
    let texts : Asks (map string_bytes c.args.words.now) c.in-Texts.mode c.in-Some.request.options = asks_texts (map string_bytes c.args.words.now) c.in-Some.request c.in-Texts.mode c.in-Texts.is ask in
    c.reported_on_texts.ensures.verified (map string_bytes c.args.words.now) texts

pub returns-in-Texts-clause-ranked : goal.returns-in-Texts-clause-ranked
returns-in-Texts-clause-ranked g c =
    let ask : requested (map string_bytes c.args.words.now) ≡ Some (asked c.in-Some.request) =
    asks_by (map string_bytes c.args.words.now) c.in_ok-request.field-0 c.in-Some.request c.in-Some.is c.in_ok-request.ensures.value in
    let texts : Asks (map string_bytes c.args.words.now) c.in-Texts.mode c.in-Some.request.options = asks_texts (map string_bytes c.args.words.now) c.in-Some.request c.in-Texts.mode c.in-Texts.is ask in
    c.reported_on_texts.ensures.ranked (map string_bytes c.args.words.now) texts

pub returns-in-Texts-clause-built : goal.returns-in-Texts-clause-built
returns-in-Texts-clause-built g c =
    let ask : requested (map string_bytes c.args.words.now) ≡ Some (asked c.in-Some.request) =
    asks_by (map string_bytes c.args.words.now) c.in_ok-request.field-0 c.in-Some.request c.in-Some.is c.in_ok-request.ensures.value in
    let texts : Asks (map string_bytes c.args.words.now) c.in-Texts.mode c.in-Some.request.options = asks_texts (map string_bytes c.args.words.now) c.in-Some.request c.in-Texts.mode c.in-Texts.is ask in
    unbuilt (map string_bytes c.args.words.now) c.in-Texts.mode c.in-Some.request.options c.reported_on_texts.result texts

pub returns-in-Texts-clause-usage : goal.returns-in-Texts-clause-usage
returns-in-Texts-clause-usage g c =
    let ask : requested (map string_bytes c.args.words.now) ≡ Some (asked c.in-Some.request) =
    asks_by (map string_bytes c.args.words.now) c.in_ok-request.field-0 c.in-Some.request c.in-Some.is c.in_ok-request.ensures.value in
    used_by_code (map string_bytes c.args.words.now) (asked c.in-Some.request) c.reported_on_texts.result ask c.reported_on_texts.ensures.no_usage

pub returns-in_ok-summed-in-Generated-clause-reported : goal.returns-in_ok-summed-in-Generated-clause-reported
returns-in_ok-summed-in-Generated-clause-reported g c =
    let ask : requested (map string_bytes c.args.words.now) ≡ Some (asked c.in-Some.request) =
    asks_by (map string_bytes c.args.words.now) c.in_ok-request.field-0 c.in-Some.request c.in-Some.is c.in_ok-request.ensures.value in
    let big : Ask (map string_bytes c.args.words.now) (settings c.in-Some.request.options) (Big c.in-Generated.count) = asks_big (map string_bytes c.args.words.now) c.in-Some.request c.in-Generated.count c.in-Generated.is ask in
    big_reported (map string_bytes c.args.words.now) (settings c.in-Some.request.options) c.in-Generated.count (answered c.in_ok-summed-in-Generated.field-0) (g.H.Shelf.texts c.args.shelf.now) big c.in_ok-summed-in-Generated.ensures.reported

pub returns-in_ok-summed-in-Generated-clause-accepted : goal.returns-in_ok-summed-in-Generated-clause-accepted
returns-in_ok-summed-in-Generated-clause-accepted g c =
    let ask : requested (map string_bytes c.args.words.now) ≡ Some (asked c.in-Some.request) =
    asks_by (map string_bytes c.args.words.now) c.in_ok-request.field-0 c.in-Some.request c.in-Some.is c.in_ok-request.ensures.value in
    let big : Ask (map string_bytes c.args.words.now) (settings c.in-Some.request.options) (Big c.in-Generated.count) = asks_big (map string_bytes c.args.words.now) c.in-Some.request c.in-Generated.count c.in-Generated.is ask in
    λ e. no_check (map string_bytes c.args.words.now) (settings c.in-Some.request.options) c.in-Generated.count (g.H.Shelf.texts c.args.shelf.now) big

pub returns-in_ok-summed-in-Generated-clause-verified : goal.returns-in_ok-summed-in-Generated-clause-verified
returns-in_ok-summed-in-Generated-clause-verified g c =
    let ask : requested (map string_bytes c.args.words.now) ≡ Some (asked c.in-Some.request) =
    asks_by (map string_bytes c.args.words.now) c.in_ok-request.field-0 c.in-Some.request c.in-Some.is c.in_ok-request.ensures.value in
    let big : Ask (map string_bytes c.args.words.now) (settings c.in-Some.request.options) (Big c.in-Generated.count) = asks_big (map string_bytes c.args.words.now) c.in-Some.request c.in-Generated.count c.in-Generated.is ask in
    λ z. no_verdict (map string_bytes c.args.words.now) (settings c.in-Some.request.options) c.in-Generated.count (g.H.Shelf.texts c.args.shelf.now) big

pub returns-in_ok-summed-in-Generated-clause-ranked : goal.returns-in_ok-summed-in-Generated-clause-ranked
returns-in_ok-summed-in-Generated-clause-ranked g c =
    let ask : requested (map string_bytes c.args.words.now) ≡ Some (asked c.in-Some.request) =
    asks_by (map string_bytes c.args.words.now) c.in_ok-request.field-0 c.in-Some.request c.in-Some.is c.in_ok-request.ensures.value in
    let big : Ask (map string_bytes c.args.words.now) (settings c.in-Some.request.options) (Big c.in-Generated.count) = asks_big (map string_bytes c.args.words.now) c.in-Some.request c.in-Generated.count c.in-Generated.is ask in
    λ z. no_ranking (map string_bytes c.args.words.now) (settings c.in-Some.request.options) c.in-Generated.count (g.H.Shelf.texts c.args.shelf.now) big

pub returns-in_ok-summed-in-Generated-clause-built : goal.returns-in_ok-summed-in-Generated-clause-built
returns-in_ok-summed-in-Generated-clause-built g c =
    let ask : requested (map string_bytes c.args.words.now) ≡ Some (asked c.in-Some.request) =
    asks_by (map string_bytes c.args.words.now) c.in_ok-request.field-0 c.in-Some.request c.in-Some.is c.in_ok-request.ensures.value in
    let big : Ask (map string_bytes c.args.words.now) (settings c.in-Some.request.options) (Big c.in-Generated.count) = asks_big (map string_bytes c.args.words.now) c.in-Some.request c.in-Generated.count c.in-Generated.is ask in
    big_built (map string_bytes c.args.words.now) (settings c.in-Some.request.options) c.in-Generated.count (answered c.in_ok-summed-in-Generated.field-0) big c.in_ok-summed-in-Generated.ensures.safe

pub returns-in_ok-summed-in-Generated-clause-usage : goal.returns-in_ok-summed-in-Generated-clause-usage
returns-in_ok-summed-in-Generated-clause-usage g c =
    let ask : requested (map string_bytes c.args.words.now) ≡ Some (asked c.in-Some.request) =
    asks_by (map string_bytes c.args.words.now) c.in_ok-request.field-0 c.in-Some.request c.in-Some.is c.in_ok-request.ensures.value in
    used_by_summary (map string_bytes c.args.words.now) (asked c.in-Some.request) c.in-Some.request.options.limits c.in-Generated.count (answered c.in_ok-summed-in-Generated.field-0) ask c.in_ok-summed-in-Generated.ensures.reported

-- the usage line says nothing else

pub returns-in_default-clause-accepted : goal.returns-in_default-clause-accepted
returns-in_default-clause-accepted g c = λ e. absurd (let z : 4 ≡ 0 = ap (λ (a : Answer). a.status) e in omega arith)

pub returns-in_default-clause-verified : goal.returns-in_default-clause-verified
returns-in_default-clause-verified g c = λ z. absurd (omega arith)

pub returns-in_default-clause-built : goal.returns-in_default-clause-built
returns-in_default-clause-built g c = λ z. absurd (omega arith)

pub returns-in_default-clause-ranked : goal.returns-in_default-clause-ranked
returns-in_default-clause-ranked g c = λ z. absurd (omega arith)
