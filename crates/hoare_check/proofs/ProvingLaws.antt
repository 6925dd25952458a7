-- What is answered of triples.
use Rattle.std.proofs.Common.{◌≡◌, List, [], ◌∷◌, map, Option, None, Some, Result, Ok, IfOk, Vec, Global, sym, ap, subst, ◌∙◌}
use Rattle.std.specs.List.{AllZip}
use Rattle.letter_acts.specs.Acts.{Alphabet}
use Rattle.farkas_check.specs.Nodes.{PlainNode}
use Rattle.int_decide.specs.Worth.{IsTreeOf}
use Rattle.triple_rows.specs.declared.triples.Triple.{Triple}
use Rattle.triple_rows.specs.Triples.{Agrees, IsRefuted}
use Rattle.triple_rows.specs.Proofs.{PlainProof}
use Rattle.hoare_check.specs.Decided.{IsProofFor, MayProve}
use Rattle.triple_rows.specs.Cuts.{columns_of}
use Rattle.hoare_check.proofs.CutLaws.{uncut_within}

-- a refutation without cuts is a proof
pub uncut_proves : (al : Alphabet) (triple : Triple) (nodes : List PlainNode) → Agrees al triple → IsRefuted al triple nodes → IsTreeOf 0 nodes →
    IsProofFor al (record { triple = triple; refutation = nodes })
uncut_proves al triple nodes a r t = record { agrees = a; over = r; within = uncut_within (columns_of al triple) nodes t }

-- ---- all of them

module _ {X Y : Type 0} (E : Type 0) (R : X → Y → Type 0) where
  -- what holds of each answer holds of the values, where all are
  values_of : (xs : List X) (ys : List Y) → AllZip (λ x (r : Result Y E). IfOk r (R x)) xs (map Ok ys) → AllZip R xs ys
  values_of [] [] h = tt
  values_of [] (y ∷ ys) h = absurd h
  values_of (x ∷ xs) [] h = absurd h
  values_of (x ∷ xs) (y ∷ ys) h = (h.0, values_of xs ys h.1)

-- the pieces of a list that is gone through in several threads
abbrev pub pieces_in : Option (Vec (Vec Triple Global) Global) → List (Vec Triple Global)
pieces_in None = []
pieces_in (Some v) = v.items

-- each triple of the piece with its answer
abbrev pub IsAnswered : Alphabet → Vec Triple Global → Vec (Option PlainProof) Global → Type 0
IsAnswered al piece proofs = AllZip (MayProve al) piece.items proofs.items

-- each piece with its answers, where all are values
abbrev pub AreTried : {E : Type 0} → Alphabet → List (Vec Triple Global) → List (Result (Vec (Option PlainProof) Global) E) → Type 0
AreTried al pieces tried = AllZip (λ piece r. IfOk r (IsAnswered al piece)) pieces tried

pub all_proved : {E : Type 0} (al given : Alphabet) (before now : Option (Vec (Vec Triple Global) Global)) (pieces listed : List (Vec Triple Global))
    (tried answers : List (Result (Vec (Option PlainProof) Global) E)) (proofs : List (Vec (Option PlainProof) Global)) → given ≡ al → before ≡ now → pieces_in now ≡ pieces →
    listed ≡ pieces_in before → AreTried given listed tried → answers ≡ tried → map Ok proofs ≡ answers → AllZip (IsAnswered al) pieces proofs
all_proved {E} al given before now pieces listed tried answers proofs same moved here from h said ends =
    let places : listed ≡ pieces = from ∙ ap pieces_in moved ∙ here in
    let ours : AreTried al listed tried = subst (λ (a : Alphabet). AreTried a listed tried) same h in
    let each : AreTried al pieces tried = subst (λ (ps : List (Vec Triple Global)). AreTried al ps tried) places ours in
    values_of E (IsAnswered al) pieces proofs (subst (λ (rs : List (Result (Vec (Option PlainProof) Global) E)). AreTried al pieces rs) (sym (ends ∙ said)) each)
