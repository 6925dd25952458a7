use Rattle.std.proofs.Common.{◌↔◌, Bool, List}
use Rattle.std.specs.Prelude.{Result, Ok, Err, IsTrue, IfOk}
use Rattle.std.specs.declared.alloc.AllocError.{AllocError}
use Rattle.lin_rows.specs.declared.systems.System.{System}
use Rattle.letter_acts.specs.Acts.{Alphabet}
use Rattle.letter_acts.specs.Invariant.{alphabet_of}
use Rattle.farkas_check.specs.Nodes.{PlainNode}
use Rattle.farkas_check.specs.Refutes.{Refutes}
use Rattle.triple_rows.specs.declared.triples.Triple.{Triple}
use Rattle.triple_rows.specs.Systems.{PlainFits, IsSystem}
use Rattle.triple_rows.specs.Triples.{system_of, IsRefuted}
use Rattle.triple_rows.proofs.PlainLaws.{refuted_alike_as_plain}
use Rattle.triple_rows.proofs.proving.is_refuted.Goals as goal

-- the nodes refute the triple exactly where they refute one system of it
refuted_by_one : (al : Alphabet) (triple : Triple) (nodes : List PlainNode) (s : System) → PlainFits (system_of al triple) → IsSystem (system_of al triple) s →
    Refutes nodes s ↔ IsRefuted al triple nodes
refuted_by_one al triple nodes s f i = (
  λ h. record { fits = f; system = s; is_system = i; refutes = h },
  λ r. refuted_alike_as_plain (system_of al triple) nodes r.system s r.is_system i r.refutes,
)

checked_alike : (r : Result Bool AllocError) (al : Alphabet) (triple : Triple) (nodes : List PlainNode) (s : System) → Refutes nodes s ↔ IsRefuted al triple nodes →
    IfOk r (λ b. IsTrue b ↔ Refutes nodes s) → IfOk r (λ b. IsTrue b ↔ IsRefuted al triple nodes)
checked_alike (Ok b) al triple nodes s e h = (λ t. e.0 (h.0 t), λ r. h.1 (e.1 r))
checked_alike (Err x) al triple nodes s e h = tt

pub returns-clause-exact : goal.returns-clause-exact
returns-clause-exact c =
    let al = alphabet_of c.args.icfg.now in
    checked_alike c.check.result al c.args.triple.now c.args.refutation.now c.in-Ok.system
    (refuted_by_one al c.args.triple.now c.args.refutation.now c.in-Ok.system c.in-Ok.ensures.fits c.in-Ok.ensures.value) c.check.ensures.exact
