-- Steps of a search over the product.
use Rattle.std.proofs.Common.{◌≡◌, ◌∙◌, ◌<◌, ℕ, List, [], ◌++◌, length, Option, Some, sym, ap, subst, inl, inr, append_assoc, append-nil}
use Rattle.nwa_base.specs.declared.letters.Letter.{Letter}
use Rattle.nwa_base.specs.Members.{Member}
use Rattle.nwa_base.specs.Automata.{Automaton}
use Rattle.nwa_base.proofs.MemberLemmas.{member_front}
use Rattle.nwa_difference.specs.Ties.Making.{Made, first_at, IsMade, Extends, Nowhere, NoReturn, Only, OnlyReturn, HasInsides, HasCalls, HasBacks, NoReturns}
use Rattle.nwa_difference.specs.Ties.Stages.{Found, Stage, IsStage, Goes, Adds, AddsAt, InsidesFollowed, CallsFollowed, IsJoined, BacksFollowed}
use Rattle.nwa_difference.proofs.GrowingLemmas.{extends_on, extends_less, extends_not, within_stays, first_stays}
use Rattle.nwa_difference.proofs.OpeningLemmas.{insides_stay, calls_stay, backs_stay}

-- the states that do not have their edges yet
abbrev pub NotOpened : Stage → ℕ → Type 0
NotOpened s x = Member s.found.opened x → ⊥

abbrev pub NotJoined : Stage → ℕ → ℕ → Type 0
NotJoined s x p = Member s.found.joined (x, p) → ⊥

pub goes_none : (s : Stage) → IsStage s → Goes s s
goes_none s v = record {
  stage = v;
  product = extends_not s.product (NotOpened s) (NotJoined s) v.made;
  more = [];
  pairs = sym (append-nil s.found.pairs);
  callers = λ p k h. h;
  exits = λ n x h. h;
  opened = λ x h. h;
  joined = λ x h. h;
}

pub goes_on : (a b c : Stage) → Goes a b → Goes b c → Goes a c
goes_on a b c g h = record {
  stage = h.stage;
  product =
      extends_on a.product b.product c.product (NotOpened a) (NotJoined a) g.product
      (extends_less b.product c.product (NotOpened b) (NotOpened a) (NotJoined b) (NotJoined a) (λ x n m. n (g.opened x m)) (λ x p n m. n (g.joined (x, p) m))
      h.product);
  more = g.more ++ h.more;
  pairs = h.pairs ∙ ap (λ (l : List (Option ℕ × ℕ)). l ++ h.more) g.pairs ∙ append_assoc a.found.pairs g.more h.more;
  callers = λ p k m. h.callers p k (g.callers p k m);
  exits = λ n x m. h.exits n x (g.exits n x m);
  opened = λ x m. h.opened x (g.opened x m);
  joined = λ x m. h.joined x (g.joined x m);
}

-- what stays
pub pair_stays : (a b : Stage) (x : Option ℕ × ℕ) → Goes a b → Member a.found.pairs x → Member b.found.pairs x
pair_stays a b x g h = subst (λ (l : List (Option ℕ × ℕ)). Member l x) (sym g.pairs) (member_front a.found.pairs g.more x h)

pub state_stays : (a b : Stage) (x : ℕ) → Goes a b → x < length a.product.states → x < length b.product.states
state_stays a b x g l = within_stays a.product b.product (NotOpened a) (NotJoined a) x g.product l

pub no_returns_stay : (a b : Stage) (x : ℕ) → Goes a b → x < length a.product.states → NoReturns a.product x → NoReturns b.product x
no_returns_stay a b x g l n w r e m =
    n w r e (subst (λ (z : ℕ). Member a.product.first.backs (z, w, r, e)) (first_stays a.product b.product (NotOpened a) (NotJoined a) x g.product l)
    (subst (λ (z : Automaton). Member z.backs (first_at b.product x, w, r, e)) g.product.first m))

pub insides_followed_stay : (a b : Stage) (k : Option ℕ) (x : ℕ) → Goes a b → InsidesFollowed a k x → InsidesFollowed b k x
insides_followed_stay a b k x g h = (
  g.opened x h.0,
  λ l y m. elim (g.product.new_insides (x, l, y) m) [ inl o ↦ pair_stays a b (k, y) g (h.1 l y o) | inr n ↦ absurd (n h.0) ],
)

pub calls_followed_stay : (a b : Stage) (x : ℕ) → Goes a b → CallsFollowed a x → CallsFollowed b x
calls_followed_stay a b x g h = (
  g.opened x h.0,
  λ l y m. elim (g.product.new_calls (x, l, y) m) [ inl o ↦ pair_stays a b (Some y, y) g (h.1 l y o) | inr n ↦ absurd (n h.0) ],
)

-- a state without returns has none in the product
pub none_return : (s : Stage) (x p y : ℕ) (l : Letter) → IsMade s.product → NoReturns s.product x → Member s.product.product.backs (x, p, l, y) → ⊥
none_return s x p y l v n m = n (first_at s.product p) l (first_at s.product y) (v.are.back x p y l m).0

pub joined_stays : (a b : Stage) (x p : ℕ) → Goes a b → IsJoined a x p → IsJoined b x p
joined_stays a b x p g (inl h) = inl (g.joined (x, p) h)
joined_stays a b x p g (inr h) = inr (state_stays a b x g h.0, no_returns_stay a b x g h.0 h.1)

new_back : (a b : Stage) (x p y : ℕ) (l : Letter) → Goes a b → IsJoined a x p → Member b.product.product.backs (x, p, l, y) → Member a.product.product.backs (x, p, l, y)
new_back a b x p y l g (inl h) m = elim (g.product.new_backs (x, p, l, y) m) [ inl o ↦ o | inr n ↦ absurd (n h) ]
new_back a b x p y l g (inr h) m = absurd (none_return b x p y l g.stage.made (no_returns_stay a b x g h.0 h.1) m)

pub backs_followed_stay : (a b : Stage) (k : Option ℕ) (p x : ℕ) → Goes a b → BacksFollowed a k p x → BacksFollowed b k p x
backs_followed_stay a b k p x g h =
    (joined_stays a b x p g h.0, λ l y m. pair_stays a b (k, y) g (h.1 l y (new_back a b x p y l g h.0 m)))

-- a state without returns is followed
pub none_followed : (s : Stage) (k : Option ℕ) (p x : ℕ) → IsMade s.product → x < length s.product.states → NoReturns s.product x → BacksFollowed s k p x
none_followed s k p x v l n = (inr (l, n), λ r y m. absurd (none_return s x p y r v n m))

-- a pair is added
pub pair_goes : (s : Stage) (f : Found) (k : Option ℕ) (q : ℕ) → IsStage s → q < length s.product.states → Adds s.found.pairs f.pairs (k, q) →
    f ≡ record s.found { pairs = f.pairs } → Goes s (record s { found = f }) × Member f.pairs (k, q)
pair_goes s f k q v l a e =
    subst (λ (z : Found). Goes s (record s { found = z }) × Member z.pairs (k, q)) (sym e) (
      record {
        stage = record {
          made = v.made;
          pairs = λ x m. elim (a.only x m) [ inl o ↦ v.pairs x o | inr n ↦ subst (λ (z : Option ℕ × ℕ). z.1 < length s.product.states) n l ];
          callers = v.callers;
          exits = v.exits;
          opened = v.opened;
          joined = v.joined;
        };
        product = extends_not s.product (NotOpened s) (NotJoined s) v.made;
        more = a.more;
        pairs = a.list;
        callers = λ p j h. h;
        exits = λ n x h. h;
        opened = λ x h. h;
        joined = λ x h. h;
      },
      a.there,
    )

-- a pair is noted
pub caller_goes : (s : Stage) (f : Found) (k : Option ℕ) (q : ℕ) → IsStage s → q < length s.product.states → AddsAt s.found.callers f.callers q k →
    f ≡ record s.found { callers = f.callers } → Goes s (record s { found = f }) × Member (f.callers q) k
caller_goes s f k q v l a e =
    subst (λ (z : Found). Goes s (record s { found = z }) × Member (z.callers q) k) (sym e) (
      record {
        stage = record {
          made = v.made;
          pairs = v.pairs;
          callers = λ p j m. elim (a.only p j m) [ inl o ↦ v.callers p j o | inr n ↦ subst (λ (z : ℕ). z < length s.product.states) n.0 l ];
          exits = v.exits;
          opened = v.opened;
          joined = v.joined;
        };
        product = extends_not s.product (NotOpened s) (NotJoined s) v.made;
        more = [];
        pairs = sym (append-nil s.found.pairs);
        callers = a.stays;
        exits = λ n x h. h;
        opened = λ x h. h;
        joined = λ x h. h;
      },
      a.there,
    )

pub exit_goes : (s : Stage) (f : Found) (n q : ℕ) → IsStage s → q < length s.product.states → AddsAt s.found.exits f.exits n q →
    f ≡ record s.found { exits = f.exits } → Goes s (record s { found = f }) × Member (f.exits n) q
exit_goes s f n q v l a e =
    subst (λ (z : Found). Goes s (record s { found = z }) × Member (z.exits n) q) (sym e) (
      record {
        stage = record {
          made = v.made;
          pairs = v.pairs;
          callers = v.callers;
          exits = λ m x h. elim (a.only m x h) [ inl o ↦ v.exits m x o | inr i ↦ subst (λ (z : ℕ). z < length s.product.states) i.1 l ];
          opened = v.opened;
          joined = v.joined;
        };
        product = extends_not s.product (NotOpened s) (NotJoined s) v.made;
        more = [];
        pairs = sym (append-nil s.found.pairs);
        callers = λ p j h. h;
        exits = a.stays;
        opened = λ x h. h;
        joined = λ x h. h;
      },
      a.there,
    )

-- the stage after the product was made longer
stage_extends : (s : Stage) (p : Made) (P : ℕ → Type 0) (Q : ℕ → ℕ → Type 0) → IsStage s → Extends s.product p P Q → IsStage (record s { product = p })
stage_extends s p P Q v g = record {
  made = g.made;
  pairs = λ x m. within_stays s.product p P Q x.1 g (v.pairs x m);
  callers = λ q k m. within_stays s.product p P Q q g (v.callers q k m);
  exits = λ n x m. within_stays s.product p P Q x g (v.exits n x m);
  opened = λ x m.
      let h = v.opened x m in (
        within_stays s.product p P Q x g h.0,
        insides_stay s.product p P Q v.made g x h.0 h.1,
        calls_stay s.product p P Q v.made g x h.0 h.2,
      );
  joined = λ x m.
      let h = v.joined x m in (
        within_stays s.product p P Q x.0 g h.0,
        within_stays s.product p P Q x.1 g h.1,
        backs_stay s.product p P Q v.made g x.0 x.1 h.0 h.1 h.2,
      );
}

-- a state has got its inside letters and calls
pub opened_goes : (s : Stage) (p : Made) (f : Found) (x : ℕ) → IsStage s → x < length s.product.states → (Member s.found.opened x → ⊥) →
    Adds s.found.opened f.opened x → f ≡ record s.found { opened = f.opened } → Extends s.product p (Only x) NoReturn → HasInsides p x → HasCalls p x →
    Goes s (record { product = p; found = f }) × Member f.opened x
opened_goes s p f x v l n a e g i c =
    let w = stage_extends s p (Only x) NoReturn v g in
    subst (λ (z : Found). Goes s (record { product = p; found = z }) × Member z.opened x) (sym e) (
      record {
        stage = record {
          made = g.made;
          pairs = w.pairs;
          callers = w.callers;
          exits = w.exits;
          opened = λ y m.
              elim (a.only y m) [
                | inl o ↦ w.opened y o
                | inr u ↦ subst (λ (z : ℕ). (z < length p.states) × HasInsides p z × HasCalls p z) u (within_stays s.product p (Only x) NoReturn x g l, i, c)
              ];
          joined = w.joined;
        };
        product =
            extends_less s.product p (Only x) (NotOpened s) NoReturn (NotJoined s) (λ y u m. n (subst (Member s.found.opened) u m)) (λ y q u. absurd u) g;
        more = [];
        pairs = sym (append-nil s.found.pairs);
        callers = λ q k h. h;
        exits = λ m y h. h;
        opened = λ y m. subst (λ (z : List ℕ). Member z y) (sym a.list) (member_front s.found.opened a.more y m);
        joined = λ y h. h;
      },
      a.there,
    )

pub was_opened : (s : Stage) (f : Found) (x : ℕ) → IsStage s → Member s.found.opened x → Adds s.found.opened f.opened x →
    f ≡ record s.found { opened = f.opened } → Goes s (record s { found = f }) × Member f.opened x
was_opened s f x v n a e =
    subst (λ (z : Found). Goes s (record s { found = z }) × Member z.opened x) (sym e) (
      record {
        stage = record {
          made = v.made;
          pairs = v.pairs;
          callers = v.callers;
          exits = v.exits;
          opened = λ y m. elim (a.only y m) [ inl o ↦ v.opened y o | inr u ↦ v.opened y (subst (Member s.found.opened) u n) ];
          joined = v.joined;
        };
        product = extends_not s.product (NotOpened s) (NotJoined s) v.made;
        more = [];
        pairs = sym (append-nil s.found.pairs);
        callers = λ q k h. h;
        exits = λ m y h. h;
        opened = λ y m. subst (λ (z : List ℕ). Member z y) (sym a.list) (member_front s.found.opened a.more y m);
        joined = λ y h. h;
      },
      a.there,
    )

-- a state has got its returns to a state before the call
pub joined_goes : (s : Stage) (p : Made) (f : Found) (x w : ℕ) → IsStage s → x < length s.product.states → w < length s.product.states →
    (Member s.found.joined (x, w) → ⊥) → Adds s.found.joined f.joined (x, w) → f ≡ record s.found { joined = f.joined } →
    Extends s.product p Nowhere (OnlyReturn x w) → HasBacks p x w → Goes s (record { product = p; found = f }) × Member f.joined (x, w)
joined_goes s p f x w v l i n a e g b =
    let t = stage_extends s p Nowhere (OnlyReturn x w) v g in
    subst (λ (z : Found). Goes s (record { product = p; found = z }) × Member z.joined (x, w)) (sym e) (
      record {
        stage = record {
          made = g.made;
          pairs = t.pairs;
          callers = t.callers;
          exits = t.exits;
          opened = t.opened;
          joined = λ y m.
              elim (a.only y m) [
                | inl o ↦ t.joined y o
                | inr u ↦
                    subst (λ (z : ℕ × ℕ). (z.0 < length p.states) × (z.1 < length p.states) × HasBacks p z.0 z.1) u (
                      within_stays s.product p Nowhere (OnlyReturn x w) x g l,
                      within_stays s.product p Nowhere (OnlyReturn x w) w g i,
                      b,
                    )
              ];
        };
        product =
            extends_less s.product p Nowhere (NotOpened s) (OnlyReturn x w) (NotJoined s) (λ y u. absurd u)
            (λ y q u m. n (subst (λ (z : ℕ). Member s.found.joined (z, w)) u.0 (subst (λ (z : ℕ). Member s.found.joined (y, z)) u.1 m))) g;
        more = [];
        pairs = sym (append-nil s.found.pairs);
        callers = λ q k h. h;
        exits = λ m y h. h;
        opened = λ y h. h;
        joined = λ y m. subst (λ (z : List (ℕ × ℕ)). Member z y) (sym a.list) (member_front s.found.joined a.more y m);
      },
      a.there,
    )

pub was_joined : (s : Stage) (f : Found) (x : ℕ × ℕ) → IsStage s → Member s.found.joined x → Adds s.found.joined f.joined x →
    f ≡ record s.found { joined = f.joined } → Goes s (record s { found = f }) × Member f.joined x
was_joined s f x v n a e =
    subst (λ (z : Found). Goes s (record s { found = z }) × Member z.joined x) (sym e) (
      record {
        stage = record {
          made = v.made;
          pairs = v.pairs;
          callers = v.callers;
          exits = v.exits;
          opened = v.opened;
          joined = λ y m. elim (a.only y m) [ inl o ↦ v.joined y o | inr u ↦ v.joined y (subst (Member s.found.joined) u n) ];
        };
        product = extends_not s.product (NotOpened s) (NotJoined s) v.made;
        more = [];
        pairs = sym (append-nil s.found.pairs);
        callers = λ q k h. h;
        exits = λ m y h. h;
        opened = λ y h. h;
        joined = λ y m. subst (λ (z : List (ℕ × ℕ)). Member z y) (sym a.list) (member_front s.found.joined a.more y m);
      },
      a.there,
    )
