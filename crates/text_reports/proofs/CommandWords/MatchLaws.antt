-- What an outcome of a parse says of the words.
use Rattle.std.proofs.Common.{◌≡◌, Bool, true, false, [], ◌∷◌, inl, inr, refl}
use Rattle.std.specs.Prelude.{◌≢◌, ◌&&◌}
use Rattle.clap.specs.declared.error.Error.{Error}
use Rattle.clap.specs.declared.error.kind.ErrorKind.TheVariants.{OutOfMemory}
use Rattle.clap.specs.Values.{kind_of}
use Rattle.clap.specs.Kinds.{Kinds, HasKind}
use Rattle.clap.specs.Simple.{App, is_simple}
use Rattle.clap.specs.Faults.{is_simple_and_free}

-- an error of another kind than want of memory is a fault
pub refused : (ks : Kinds) (e : Error) → HasKind ks e → kind_of e ≢ OutOfMemory → ks ≢ []
refused [] e (inl memory) other = λ none. other memory
refused [] e (inr among) other = absurd among
refused (k ∷ ks) e h other = λ none. cc

first : (b c : Bool) → b && c ≡ true → b ≡ true
first true c h = refl
first false c h = h

-- a command that is simple and free is simple
pub simple : (a : App) → is_simple_and_free a ≡ true → is_simple a ≡ true
simple a h = first (is_simple a) _ h
