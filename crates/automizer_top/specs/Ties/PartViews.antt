-- Parts of the code, and what is answered to them, as contracts see them.
use Rattle.std.specs.Prelude.{◌≡◌, ℕ, ◌+◌, ◌≤◌, List, [], ◌∷◌, map, length, Option, None, Some, slice_get, codes}
use Rattle.std.specs.List.{AllByRecursion}
use Rattle.std.specs.Borrow.{Bor}
use Rattle.boogie_tree.specs.declared.span.Span.{Span}
use Rattle.typed_tree.specs.TypedTree.{TypedProgram}
use Rattle.boogie_run.specs.RunRules.Runs.{IsSafe}
use Rattle.letter_acts.specs.Invariant.{Graph}
use Rattle.lowered_graph.specs.Items.{ItemFault}
use Rattle.modular_cut.specs.declared.cutting.Part.{Part}
use Rattle.modular_cut.specs.Parts.{PlainPart, parts_of}
use Rattle.modular_cut.specs.View.{plain_part}
use Rattle.modular_cut.specs.FreeConditions.{free_spans, IsFirstFree}
use Rattle.automizer_top.specs.declared.parts.LoweredParts.{LoweredParts}
use Rattle.automizer_top.specs.declared.parts.Left.{Left}
use Rattle.text_reports.specs.TypeRefusals.{rule_line}
use Rattle.text_reports.specs.LoweringRefusals.{lowering_refusal}
use Rattle.automizer_top.specs.PartTexts.{part_line, text_behind, front_lines, front_text, rest_text}
use Rattle.text_reports.specs.ReportTexts.{Answer, answer}
use Rattle.automizer_top.specs.Report.{ReportsTyped, IsTypedText}
use Rattle.automizer_top.specs.Parts.{ReportsCut, first_part_fault, ReportsLoweredParts, ProvesPart, ChecksPart, part_in}
use Rattle.text_reports.specs.Answers.{IsGraphOf, HasNoErrorWord}

-- These are the parts of the program, none of its specifications and invariants is free, and it is safe where they are.
pub record AreParts (t : TypedProgram) (ps : List Part) : Type 0 where
  pub value : map plain_part ps ≡ parts_of t
  pub none_free : free_spans t ≡ []
  pub suffice : AllByRecursion (λ p. IsSafe p.program) (map plain_part ps) → IsSafe t

-- the answer names the first free specification or invariant
abbrev pub RefusesFree : TypedProgram → Answer → Type 0
RefusesFree t a = (at : Span) × IsFirstFree t at × (a ≡ answer (rule_line (codes "Free") at) 3)

-- the graphs are those of the programs of these parts
abbrev pub AreGraphsOf : List PlainPart → List Graph → Type 0
AreGraphsOf [] [] = Unit {0}
AreGraphsOf [] (g ∷ gs) = ⊥
AreGraphsOf (p ∷ ps) [] = ⊥
AreGraphsOf (p ∷ ps) (g ∷ gs) = IsGraphOf p.program g × AreGraphsOf ps gs

-- no word that one of the automata accepts is feasible
abbrev pub HaveNoErrorWord : List Graph → Type 0
HaveNoErrorWord gs = AllByRecursion HasNoErrorWord gs

-- the answer names what cannot be lowered of the first of these parts that cannot be
abbrev pub RefusesUnlowered : List PlainPart → Answer → Type 0
RefusesUnlowered ps a = (f : ItemFault) × (first_part_fault ps ≡ Some f) × (a ≡ answer (lowering_refusal f) 3)

-- what is answered to a program text that has no parts with graphs
abbrev pub RefusesParts : List ℕ → List ℕ → Answer → Type 0
RefusesParts entry program = ReportsTyped entry program (λ t. ReportsCut t (λ ps. ReportsLoweredParts ps (λ a. ⊥)))

-- these are the parts of the program of the text, with their graphs
abbrev pub IsLoweredText : List ℕ → List ℕ → LoweredParts → Type 0
IsLoweredText entry text l = (t : TypedProgram) × IsTypedText entry text t × AreParts t l.parts.items × AreGraphsOf (map plain_part l.parts.items) l.graphs.items

-- what is answered where the line or the annotation of a part is wrong
abbrev pub JudgesPart : PlainPart → Left → Answer → Type 0
JudgesPart p left = ChecksPart p left.before left.text.now (λ before rest a. ⊥)

-- The line and the annotation of a part are right, and this is left behind them.
pub record ChecksOn (p : PlainPart) (g : Graph) (left next : Left) : Type 0 where
  pub text : List ℕ
  pub line : text_behind (part_line p.name) left.text.now ≡ Some text
  pub proved : ProvesPart g (front_text text)
  pub before : next.before ≡ left.before + 1 + length (front_lines text)
  pub rest : next.text.now ≡ rest_text text
  pub safe : HasNoErrorWord g
  pub few : next.before + length next.text.now ≤ left.before + length left.text.now
  pub short : length next.text.now ≤ length left.text.now

-- this is the part that the text names in its first line, by its number, and what stands behind that line
abbrev pub FindsPart : List PlainPart → List ℕ → Option (ℕ × Bor (List ℕ)) → Type 0
FindsPart ps text None = part_in ps text ≡ None
FindsPart ps text (Some x) = (p : PlainPart) × (slice_get ps x.0 ≡ Some p) × (part_in ps text ≡ Some (p, x.1.now))
