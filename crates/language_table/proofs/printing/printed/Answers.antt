use denote.Param.Send.{sendable}
use Rattle.boogie_tree.proofs.Crossing.{program_send, program_sync}
use Rattle.language_table.proofs.printing.printed.Goals as goal

pub shared-requires-send-T : goal.shared-requires-send-T
shared-requires-send-T c κs = search (sendable, program_send)

pub shared-requires-sync-T : goal.shared-requires-sync-T
shared-requires-sync-T c κs = search (sendable, program_sync)
