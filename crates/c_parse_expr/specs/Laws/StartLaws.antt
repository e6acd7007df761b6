-- With which tokens the words of chains begin.
use Rattle.std.specs.Prelude.{◌≡◌, Bool, true, false, List, ◌∷◌, ◌++◌}
use Rattle.std.proofs.Common.{sym, ◌∙◌, ap, subst}
use Rattle.c_parse_base.specs.Reading.Good.{Language, StartsIn}
use Rattle.c_parse_base.specs.Reading.Languages.{Chain, once, again}
use Rattle.c_parse_base.specs.Laws.Lists.{starts_append}

-- the first tokens of equal words are one
pub one_head : {T : Type 0} (f g : T → Bool) (w : List T) (s : StartsIn f w) (r : StartsIn g w) → s.head ≡ r.head
one_head f g w s r = let same = sym s.parts ∙ r.parts in cc

-- a word does not begin in two ways of which no token is both
pub apart_starts : {T : Type 0} (f g : T → Bool) (w : List T) → StartsIn f w → StartsIn g w → ((x : T) → f x ≡ true → g x ≡ false) → ⊥
apart_starts f g w s r apart =
    let not_so = apart s.head s.is_first in
    let so = ap g (one_head f g w s r) ∙ r.is_first in
    cc

-- a word with another behind it begins as it does
pub starts_before : {T : Type 0} (f g : T → Bool) (u v : List T) → StartsIn g u → StartsIn f (u ++ v) → StartsIn f u
starts_before f g u v s r =
    let both : s.head ∷ (s.tail ++ v) ≡ r.head ∷ r.tail = ap (λ u. u ++ v) (sym s.parts) ∙ r.parts in
    let same : s.head ≡ r.head = cc in
    record { head = s.head; tail = s.tail; parts = s.parts; is_first = ap f same ∙ r.is_first }

-- a chain begins as its first part
pub chain_starts : {T A : Type 0} {L : Language T A} {S : A → Language T A} (first : T → Bool) →
    ((a : A) (w : List T) → L a w → StartsIn first w) →
    (a : A) (w : List T) → Chain L S a w → StartsIn first w
chain_starts first starts a w (once l) = starts a w l
chain_starts first starts a w (again {a = b} {w = v} {u = u} c m) = starts_append first v u (chain_starts first starts b v c)

module _ {T A : Type 0} {L M : Language T A} {S : A → Language T A} where
  -- another first part of the same words
  pub chain_as : ((a : A) (w : List T) → L a w → M a w) → (a : A) (w : List T) → Chain L S a w → Chain M S a w
  chain_as pick a w (once l) = once (pick a w l)
  chain_as pick a w (again {a = b} {w = v} {u = u} c m) = again (chain_as pick b v c) m

  -- another first part, where the whole begins with some tokens
  pub chain_where : (first f : T → Bool) → ((a : A) (w : List T) → L a w → StartsIn first w) →
      ((a : A) (w : List T) → L a w → StartsIn f w → M a w) →
      (a : A) (w : List T) → Chain L S a w → StartsIn f w → Chain M S a w
  chain_where first f starts pick a w (once l) s = once (pick a w l s)
  chain_where first f starts pick a w (again {a = b} {w = v} {u = u} c m) s =
      again (chain_where first f starts pick b v c (starts_before f first v u (chain_starts first starts b v c) s)) m

  -- a token before the first part
  pub chain_before : (t : T) → ((a : A) (u : List T) → L a u → M a (t ∷ u)) → (a : A) (u : List T) → Chain L S a u → Chain M S a (t ∷ u)
  chain_before t pick a u (once l) = once (pick a u l)
  chain_before t pick a u (again {a = b} {w = v} {u = x} c m) = again (chain_before t pick b v c) m

  -- the first part without its first token
  pub chain_behind : (first : T → Bool) → ((a : A) (w : List T) → L a w → StartsIn first w) → (t : T) →
      ((a : A) (w u : List T) → L a w → w ≡ t ∷ u → M a u) →
      (a : A) (w u : List T) → Chain L S a w → w ≡ t ∷ u → Chain M S a u
  chain_behind first starts t pick a w u (once l) e = once (pick a w u l e)
  chain_behind first starts t pick a w u (again {a = b} {w = v} {u = x} c m) e =
      let s : StartsIn first v = chain_starts first starts b v c in
      let parts : s.head ∷ (s.tail ++ x) ≡ t ∷ u = ap (λ v. v ++ x) (sym s.parts) ∙ e in
      let same : s.head ≡ t = cc in
      let left : s.tail ++ x ≡ u = cc in
      subst (λ u. Chain M S a u) left (again (chain_behind first starts t pick b v s.tail c (s.parts ∙ ap (λ y. y ∷ s.tail) same)) m)
