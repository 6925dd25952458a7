-- The letters of a list: where one is met, an inside step by it leads on, and the other way round.
use Rattle.std.proofs.Common.{◌≡◌, ℕ, false, ℤ, List, [], ◌∷◌, ◌++◌, length, inl, inr, ◌⊎◌, refl, sym, ap, subst, ◌∙◌, arith}
use Rattle.letter_acts.specs.Frames.{Columns, IsState}
use Rattle.letter_acts.specs.Values.{RowsHold, put_all}
use Rattle.letter_acts.specs.Meaning.{InsideLeads}
use Rattle.cond_jumps.specs.Conjunctions.{Conjunction}
use Rattle.cond_jumps.specs.Lists.{IsMet}
use Rattle.cond_jumps.specs.FreeProducts.Letters.{MarkedConjunction}
use Rattle.cond_jumps.specs.FreeProducts.LetterLaws.{SomeLetterIsMet, SomeExactLetterIsMet}
use Rattle.lowered_graph.specs.LoweredSteps.Edges.{Spot, Edge, leads}
use Rattle.lowered_graph.specs.LoweredSteps.Stacks.{IsAmong}

append_none : {X : Type 0} (xs : List X) → xs ++ [] ≡ xs
append_none [] = refl
append_none {X} (x ∷ xs) = ap (λ (ys : List X). x ∷ ys) (append_none xs)

no_members : (zs : List ℤ) → length zs ≡ 0 → zs ≡ []
no_members [] e = refl
no_members (z ∷ zs) e = absurd (omega arith)

-- a letter that is met
pub record MetLetter (values : List ℤ) (ls : List MarkedConjunction) : Type 0 where
  pub letter : MarkedConjunction
  pub among : IsAmong ls letter
  pub met : IsMet values letter.plain

pub letter_met : (values : List ℤ) (ls : List MarkedConjunction) → SomeLetterIsMet values ls → MetLetter values ls
letter_met values [] h = absurd h
letter_met values (l ∷ ls) (inl h) = record { letter = l; among = inl refl; met = h }
letter_met values (l ∷ ls) (inr h) = let m = letter_met values ls h in record { letter = m.letter; among = inr m.among; met = m.met }

-- and the other way round, where it is not coarse
pub exactly_met : (values : List ℤ) (ls : List MarkedConjunction) (l : MarkedConjunction) → IsAmong ls l → l.coarse ≡ false → IsMet values l.plain → SomeExactLetterIsMet values ls
exactly_met values [] l i c h = absurd i
exactly_met values (k ∷ ks) l (inl e) c h = inl (subst (λ (x : MarkedConjunction). (x.coarse ≡ false) × IsMet values x.plain) (sym e) (c, h))
exactly_met values (k ∷ ks) l (inr i) c h = inr (exactly_met values ks l i c h)

-- ---- edges of a list

-- the edge of a letter
abbrev pub edge_of : List ℕ → Spot → MarkedConjunction → Edge
edge_of w to l = record { to = to; written = w; rows = l.plain; coarse = l.coarse }

-- the letter of an edge
abbrev pub letter_of_edge : Edge → MarkedConjunction
letter_of_edge e = record { plain = e.rows; coarse = e.coarse }

pub edge_among : (w : List ℕ) (ls : List MarkedConjunction) (to : Spot) (l : MarkedConjunction) → IsAmong ls l → IsAmong (leads w ls to) (edge_of w to l)
edge_among w [] to l i = absurd i
edge_among w (k ∷ ks) to l (inl e) = inl (ap (edge_of w to) e)
edge_among w (k ∷ ks) to l (inr i) = inr (edge_among w ks to l i)

-- an edge of the list is that of a member
pub record IsLed (w : List ℕ) (ls : List MarkedConjunction) (to : Spot) (e : Edge) : Type 0 where
  pub to_is : e.to ≡ to
  pub written_is : e.written ≡ w
  pub member : IsAmong ls (letter_of_edge e)

pub among_led : (w : List ℕ) (ls : List MarkedConjunction) (to : Spot) (e : Edge) → IsAmong (leads w ls to) e → IsLed w ls to e
among_led w [] to e i = absurd i
among_led w (k ∷ ks) to e (inl is) = record { to_is = sym (ap (λ (x : Edge). x.to) is); written_is = sym (ap (λ (x : Edge). x.written) is); member = inl (ap letter_of_edge is) }
among_led w (k ∷ ks) to e (inr i) = let l = among_led w ks to e i in record { to_is = l.to_is; written_is = l.written_is; member = inr l.member }

pub among_front : {X : Type 0} (xs ys : List X) (x : X) → IsAmong xs x → IsAmong (xs ++ ys) x
among_front [] ys x i = absurd i
among_front (y ∷ more) ys x (inl e) = inl e
among_front (y ∷ more) ys x (inr i) = inr (among_front more ys x i)

pub among_rest : {X : Type 0} (xs ys : List X) (x : X) → IsAmong ys x → IsAmong (xs ++ ys) x
among_rest [] ys x i = i
among_rest (y ∷ more) ys x i = inr (among_rest more ys x i)

pub among_either : {X : Type 0} (xs ys : List X) (x : X) → IsAmong (xs ++ ys) x → IsAmong xs x ⊎ IsAmong ys x
among_either [] ys x i = inr i
among_either (y ∷ more) ys x (inl e) = inl (inl e)
among_either (y ∷ more) ys x (inr i) = elim (among_either more ys x i) [ inl h ↦ inl (inr h) | inr h ↦ inr h ]

-- ---- a condition: nothing is written

pub condition_leads : (frame : Columns) (values : List ℤ) (c : Conjunction) → IsState frame values → IsMet values c → InsideLeads frame [] c.helpers c.rows values values
condition_leads frame values c s met = record {
  before = s;
  after = s;
  news = [];
  as_many = refl;
  put = refl;
  rows_hold = rw append_none met;
}

pub condition_led : (frame : Columns) (values after : List ℤ) (c : Conjunction) → InsideLeads frame [] c.helpers c.rows values after → (after ≡ values) × IsMet values c
condition_led frame values after c h =
    let none : h.news ≡ [] = no_members h.news h.as_many in
    let same : values ++ h.news ≡ values = ap (λ (zs : List ℤ). values ++ zs) none ∙ append_none values in
    (h.put ∙ refl, subst (λ (zs : List ℤ). RowsHold zs c.helpers c.rows) same h.rows_hold)

-- ---- an assignment

pub assignment_leads : (frame : Columns) (w : List ℕ) (values news : List ℤ) (c : Conjunction) → IsState frame values → IsState frame (put_all values w news) → length news ≡ length w →
    IsMet (values ++ news) c → InsideLeads frame w c.helpers c.rows values (put_all values w news)
assignment_leads frame w values news c s t l met = record { before = s; after = t; news = news; as_many = l; put = refl; rows_hold = met }

-- ---- no rows at all

pub no_rows_met : (values : List ℤ) → IsMet values (record { rows = []; helpers = 0 })
no_rows_met values = record { helpers = []; as_many = refl; hold = tt }
