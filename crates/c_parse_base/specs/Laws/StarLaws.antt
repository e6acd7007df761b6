-- Stars behind a type that was read are read (ISO C11 6.7.6.1).
use Rattle.std.specs.Prelude.{◌≡◌, ℕ, zero, suc, ◌+◌, ◌<◌, Bool, true, List, [], ◌∷◌, ◌++◌, refl}
use Rattle.std.proofs.Common.{sym, ◌∙◌, ap, subst, arith}
use Rattle.c_ast.specs.declared.token.Span.{Span}
use Rattle.c_ast.specs.Seen.{Seen as Token}
use Rattle.c_ast.specs.declared.expr.CType.{CType}
use Rattle.c_ast.specs.declared.expr.CType.TheVariants as type
use Rattle.c_ast.specs.declared.punctuator.Punctuator.TheVariants as mark
use Rattle.c_grammar.specs.Words.{punctuator, end_of, span_of}
use Rattle.c_grammar.specs.Types as grammar
use Rattle.c_grammar.specs.Types.{Stars}
use Rattle.c_parse_base.specs.Reading.Good.{Begins, Good}
use Rattle.c_parse_base.specs.Reading.Languages.{Chain, once, again}
use Rattle.c_parse_base.specs.Laws.ChainLaws.{chain_good}
use Rattle.c_parse_base.specs.Reading.Words.{is, place_of, Spot, spot}
use Rattle.c_parse_base.specs.Laws.WordGood.{good_as}
use Rattle.c_parse_base.specs.Laws.SpanLaws.{end_last}
use Rattle.c_parse_base.specs.Laws.Depths.{is_below}
use Rattle.c_parse_base.specs.declared.type_read.TypeRead.{TypeRead}
use Rattle.c_parse_base.specs.Reading.TypeNames.{has_room, star_of, star, stars}
use Rattle.c_parse_base.specs.Laws.TypeNameLaws.{Low, typed, StarBehind, lone_star_good, star_begins, may_star}

-- tokens that are one or more stars behind a type, and where they end
pub record StarsWord (a v : TypeRead) (w : List Token) : Type 0 where
  pub more : ℕ
  pub stars : Stars a.ty (suc more) v.ty w
  pub height : v.height ≡ suc more + a.height
  pub end : v.end ≡ (span_of w).end

-- a further star goes on behind them
abbrev pub goes_on_stars : TypeRead → Token → Bool
goes_on_stars v t = is (punctuator mark.Star) t

star_alone : (a v : TypeRead) (w : List Token) → StarBehind a v w → StarsWord a v w
star_alone a v w m = subst (λ v. StarsWord a v w) m.is (go m.source w m.word)
  where
    go : (place : Span) (w : List Token) → Spot (punctuator mark.Star) place w → StarsWord a (star_of a place) w
    go place w (spot t e) = record { more = 0; stars = grammar.star t grammar.none e; height = omega arith; end = refl }

star_more : (a b v : TypeRead) (w u : List Token) → StarsWord a b w → StarBehind b v u → StarsWord a v (w ++ u)
star_more a b v w u s m = subst (λ v. StarsWord a v (w ++ u)) m.is (go m.source u m.word)
  where
    go : (place : Span) (u : List Token) → Spot (punctuator mark.Star) place u → StarsWord a (star_of b place) (w ++ u)
    go place u (spot t e) = record {
      more = suc s.more;
      stars = grammar.star t s.stars e;
      height = omega (arith, s.height);
      end = sym (end_last w t);
    }

pub stars_into : (a v : TypeRead) (w : List Token) → Chain (StarBehind a) StarBehind v w → StarsWord a v w
stars_into a v w (once m) = star_alone a v w m
stars_into a v w (again {a = b} {w = x} {u = u} c m) = star_more a b v x u (stars_into a b x c) m

stars_chain : (a : TypeRead) (n : ℕ) (ty : CType) (height : ℕ) (w : List Token) → Stars a.ty (suc n) ty w → height ≡ suc n + a.height →
    Chain (StarBehind a) StarBehind (typed ty height (span_of w).end) w
stars_chain a zero ty height w (grammar.star t grammar.none e) h =
    let same : suc a.height ≡ height = omega arith in
    once (record { source = place_of t; is = ap (λ height. typed (type.Pointer a.ty) height (end_of t)) same; word = spot t e })
stars_chain a (suc n) ty height w (grammar.star {ty = to} {w = x} t s e) h =
    let same : suc (suc n + a.height) ≡ height = omega arith in
    again (stars_chain a n to (suc n + a.height) x s refl) (record {
      source = place_of t;
      word = spot t e;
      is = ap (λ height. typed (type.Pointer to) height (end_of t)) same ∙ ap (typed (type.Pointer to) height) (sym (end_last x t));
    })

pub stars_out : (a v : TypeRead) (w : List Token) → StarsWord a v w → Chain (StarBehind a) StarBehind v w
stars_out a v w s =
    subst (λ end. Chain (StarBehind a) StarBehind (typed v.ty v.height end) w) (sym s.end)
    (stars_chain a s.more v.ty v.height w s.stars s.height)

-- one or more stars are read where there is room for the first
pub stars_good : (d : ℕ) (a : TypeRead) → a.height < d → Good (stars d a) (StarsWord a) (Low d) (is (punctuator mark.Star)) goes_on_stars
unfolding stars
stars_good d a low = good_as (StarsWord a) (Low d) (is (punctuator mark.Star))
    (chain_good (is (punctuator mark.Star)) (has_room d) star StarBehind (lone_star_good d) goes_on_stars
    (lone_star_good d a (record { fits = omega arith; has_room = is_below a.height d low })) star_begins (may_star d)
    (λ a x h. refl) (λ a x h. (refl, h)))
    (stars_into a) (stars_out a) (λ v w m h. h) (λ v w m h. h) (λ x h. h)

-- some stars begin with each star
pub stars_begin_at : (a : TypeRead) (t : Token) → is (punctuator mark.Star) t ≡ true → Begins (StarsWord a) (t ∷ [])
stars_begin_at a t e = let b = star_begins a t e in record {
  value = b.value;
  more = b.more;
  whole = star_alone a b.value ((t ∷ []) ++ b.more) b.whole;
}
