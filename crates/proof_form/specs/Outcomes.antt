-- What a function that reads answers: what reading on lists gives, unless memory ran out.
use Rattle.std.specs.Prelude.{◌≡◌, Option, None, Some, Result, Ok, Err}
use Rattle.proof_form.specs.declared.refusal.Refusal.{Refusal}
use Rattle.proof_form.specs.declared.refusal.Refusal.TheVariants.{Form, Memory}

-- the next step, if the one before gave something
infixl 10 ◌>>=◌
abbrev pub ◌>>=◌ : {A B : Type 0} → Option A → (A → Option B) → Option B
None >>= f = None
(Some x) >>= f = f x

-- nothing is read only where there is nothing to read, or for want of memory
abbrev pub Refuses : {Y : Type 0} → Refusal → Option Y → Type 0
Refuses Form read = read ≡ None
Refuses Memory read = Unit {0}

abbrev pub Gives : {X Y : Type 0} → (X → Y) → Result X Refusal → Option Y → Type 0
Gives view (Ok x) read = read ≡ Some (view x)
Gives view (Err e) read = Refuses e read

-- the next step at what stands after a text, if it stands there, else another
abbrev pub then_or : {A B : Type 0} → Option A → (A → Option B) → Option B → Option B
then_or None f other = other
then_or (Some x) f other = f x
