use Rattle.std.proofs.Common.{◌≡◌, ◌∙◌, [], map, sym}
use Rattle.std.specs.String.{string_bytes}
use Rattle.clap.specs.Matches.{found_of}
use Rattle.clap.specs.Walk.{rows_of}
use Rattle.clap.specs.Simple.{app_of, matches_of}
use Rattle.clap.specs.Faults.{fault_of}
use Rattle.automizer_top.proofs.CommandLaws.{is_free, refused_asks_nothing, taken_asks}
use Rattle.automizer_top.proofs.words.read_words.Goals as goal

pub matched-requires : goal.matched-requires
matched-requires c = is_free (app_of c.in_ok-command.command) c.in_ok-command.ensures

pub returns-in_default-clause-value : goal.returns-in_default-clause-value
returns-in_default-clause-value c =
    refused_asks_nothing (app_of c.in_ok-command.command) (map string_bytes c.args.words.now) c.in_ok-command.ensures (rw c.in_default.is at c.in_ok-matches.ensures)

pub returns-clause-value : goal.returns-clause-value
returns-clause-value c =
    let taken : (fault_of (app_of c.in_ok-command.command) (map string_bytes c.args.words.now) ≡ [])
    × (rows_of (found_of c.in-Some.matches) ≡ matches_of (app_of c.in_ok-command.command) (map string_bytes c.args.words.now)) =
    rw c.in-Some.is at c.in_ok-matches.ensures in
    sym c.request_of.ensures.value
    ∙ taken_asks (app_of c.in_ok-command.command) (map string_bytes c.args.words.now) (rows_of (found_of c.in-Some.matches)) c.in_ok-command.ensures taken.0 taken.1
