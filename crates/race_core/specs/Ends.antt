-- Which end it is.
use Rattle.std.specs.Prelude.{Option, None, Some}
use Rattle.race_core.specs.declared.ends.End.{End}
use Rattle.race_core.specs.declared.ends.End.TheVariants.{Safe, Unsafe, Unknown}
use Rattle.race_core.specs.declared.ends.EndKind.{EndKind}
use Rattle.race_core.specs.declared.ends.EndKind.TheVariants as kinds

-- the kind of an end
abbrev pub kind_of : End → EndKind
kind_of Safe = kinds.Safe
kind_of (Unsafe word steps choices) = kinds.Unsafe
kind_of (Unknown cause word) = kinds.Unknown cause

-- the kind of the end, where one is set
abbrev pub kind_in : Option End → Option EndKind
kind_in None = None
kind_in (Some e) = Some (kind_of e)
