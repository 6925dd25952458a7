use Rattle.std.proofs.Common.{◌∙◌, ap}
use Rattle.lin_rows.specs.declared.systems.System.{out-System}
use Rattle.lin_rows.specs.Systems.{members_of}
use Rattle.lin_rows.proofs.SystemLaws.{members_of-append}
use Rattle.hoare_check.proofs.halves.appended.Goals as goal

pub returns : goal.returns
returns c = record {
  rows = c.system.ensures.rows ∙ c.in_ok-append.ensures.items;
  groups = c.system.ensures.groups ∙ ap members_of c.in_ok-append-2.ensures.items ∙ members_of-append (out-System c.args.first).groups.items (out-System c.args.second).groups.items;
}
