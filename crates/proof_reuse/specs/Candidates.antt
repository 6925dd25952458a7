-- The candidates: the triples of an earlier annotation that are tried on a program.
use Rattle.std.specs.Prelude.{◌≡◌, ◌⊎◌, ℕ, Bool, true, false, List, Option, Some}
use Rattle.std.specs.Option.{option_and_then}
use Rattle.std.specs.List.{AllByRecursion}
use Rattle.nwa_base.specs.Members.{Member}
use Rattle.letter_acts.specs.Invariant.{Graph, alphabet_of}
use Rattle.triple_rows.specs.declared.triples.Scoped.{Scoped}
use Rattle.triple_rows.specs.declared.triples.Triple.{Triple}
use Rattle.triple_rows.specs.declared.triples.Triple.TheVariants.{Inside, Call, Back}
use Rattle.triple_rows.specs.Triples.{Agrees, truth_of}
use Rattle.proof_form.specs.declared.numerals.Numeral.{Numeral}
use Rattle.proof_form.specs.Lines as form
use Rattle.proof_form.specs.Lines.{inside_triple, call_triple, back_triple}
use Rattle.proof_form.specs.Annotations.{Content}
use Rattle.proof_names.specs.Numbers.{index_in}
use Rattle.proof_names.specs.Naming.{scoped_at}
use Rattle.itp_automaton.specs.Making.{named_in}
use Rattle.proof_reuse.specs.Found.{found_at, found_preds}

-- what a numeral of OLD stands for in a procedure: 0 for true, 1 for false, k + 2 for what is found of line k
abbrev pub meant : Graph → Content → ℕ → Numeral → Option Scoped
meant g old p n = option_and_then (scoped_at (found_at g old) p) (index_in n)

-- the numeral stands for the predicate
abbrev pub StandsFor : Graph → Content → Numeral → Scoped → Type 0
StandsFor g old n s = meant g old s.proc n ≡ Some s

-- As a source 0 stands for any predicate that is found as well.
abbrev pub MayStandFor : Graph → Content → Numeral → Scoped → Type 0
MayStandFor g old n s = StandsFor g old n s ⊎ ((index_in n ≡ Some 0) × Member (found_preds g old) s)

-- The triple has the kind, the sources and the target of the line. The line's letter and refutation mean nothing here.
abbrev pub IsRenewed : Graph → Content → form.Triple → Triple → Type 0
IsRenewed g old (inside_triple q l r proof) (Inside from letter to) = MayStandFor g old q from × StandsFor g old r to
IsRenewed g old (inside_triple q l r proof) (Call from letter to) = ⊥
IsRenewed g old (inside_triple q l r proof) (Back exit before letter to) = ⊥
IsRenewed g old (call_triple q l r proof) (Inside from letter to) = ⊥
IsRenewed g old (call_triple q l r proof) (Call from letter to) = MayStandFor g old q from × StandsFor g old r to
IsRenewed g old (call_triple q l r proof) (Back exit before letter to) = ⊥
IsRenewed g old (back_triple x b l r proof) (Inside from letter to) = ⊥
IsRenewed g old (back_triple x b l r proof) (Call from letter to) = ⊥
IsRenewed g old (back_triple x b l r proof) (Back exit before letter to) = MayStandFor g old x exit × (MayStandFor g old b before × StandsFor g old r to)

-- one of these lines is renewed so
abbrev pub RenewsOneOf : Graph → Content → List form.Triple → Triple → Type 0
RenewsOneOf g old lines t = (line : form.Triple) × Member lines line × IsRenewed g old line t

abbrev pub RenewsLine : Graph → Content → Triple → Type 0
RenewsLine g old t = RenewsOneOf g old old.triples t

-- the predicate is this truth value of its procedure
abbrev pub IsTruthOf : Bool → Scoped → Type 0
IsTruthOf b s = s ≡ truth_of s.proc b

-- each predicate of the triple is true
abbrev pub IsTrueThroughout : Triple → Type 0
IsTrueThroughout t = AllByRecursion (IsTruthOf true) (named_in t)

-- from false to false; at a return false at the exit or before the call, and true at the other
abbrev pub KeepsFalse : Triple → Type 0
KeepsFalse (Inside from letter to) = IsTruthOf false from × IsTruthOf false to
KeepsFalse (Call from letter to) = IsTruthOf false from × IsTruthOf false to
KeepsFalse (Back exit before letter to) =
    ((IsTruthOf false exit × IsTruthOf true before) ⊎ (IsTruthOf true exit × IsTruthOf false before)) × IsTruthOf false to

-- a call from a predicate that is found to true: what is known before it is kept until the return, and the callee begins with nothing
abbrev pub BeginsTrue : Graph → Content → Triple → Type 0
BeginsTrue g old (Inside from letter to) = ⊥
BeginsTrue g old (Call from letter to) = Member (found_preds g old) from × IsTruthOf true to
BeginsTrue g old (Back exit before letter to) = ⊥

-- A candidate: its letter is any of the program whose kind and scopes fit, and it renews a line, is true throughout, keeps false, or begins with true.
pub record IsCandidate (g : Graph) (old : Content) (t : Triple) : Type 0 where
  pub agrees : Agrees (alphabet_of g) t
  pub origin : RenewsLine g old t ⊎ (IsTrueThroughout t ⊎ (KeepsFalse t ⊎ BeginsTrue g old t))
