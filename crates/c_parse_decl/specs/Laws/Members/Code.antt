-- What the code of the parser needs of the parser.
use Rattle.std.specs.Prelude.{◌≡◌, ℕ, ◌<◌, ◌-◌, true, false, List, length, refl}
use Rattle.std.proofs.Common.{◌∙◌, ap}
use Rattle.c_ast.specs.Seen.{Seen as Token}
use Rattle.c_ast.specs.declared.expr.CType.{CType}
use Rattle.c_ast.specs.declared.punctuator.Punctuator.TheVariants as mark
use Rattle.c_parse_base.specs.Reading.Answer.{Read, and_then, thens, makes, sees, turns, repeats}
use Rattle.c_parse_base.specs.Laws.LoopLaws.{Loop, left}
use Rattle.c_parse_base.specs.Reading.Answers.{rest_of}
use Rattle.c_grammar.specs.Words.{punctuator}
use Rattle.c_parse_base.specs.Reading.Good.{Good}
use Rattle.c_parse_base.specs.Reading.Languages.{nothing}
use Rattle.c_parse_base.specs.Laws.ChainLaws.{MayTurn}
use Rattle.c_parse_base.specs.Reading.Words.{is, punct}
use Rattle.c_parse_base.specs.Reading.TypeNames.{begins_type, base}
use Rattle.c_parse_decl.specs.declared.declarators.declared.Declared.{Declared}
use Rattle.c_parse_decl.specs.Reading.Declarators.{declarator}
use Rattle.c_parse_expr.specs.Laws.WordCode.{marked_makes}
use Rattle.c_parse_decl.specs.declared.members.member_list.MemberList.{MemberList}
use Rattle.c_parse_decl.specs.Reading.Members.{ListReader, extended, no_members, body_of, free, further, declarators, ended, member}
use Rattle.c_parse_decl.specs.Reading.Members.{members, body}
use Rattle.c_parse_decl.specs.Laws.Members.ListLaws.{LowList, comma, Further, further_good}
use Rattle.c_parse_decl.specs.Laws.Members.MemberLaws.{MemberBehind, member_good}

-- ---- declarators

-- a further declarator
abbrev pub further_declarator : ℕ → CType → Loop Token MemberList
further_declarator d of = record { test = λ _. comma; room = free; step = further d of }

module _ (d : ℕ) (of : CType) where
  pub declarators_is : (a : MemberList) (ts : List Token) → declarators d of a ts ≡ and_then (makes (extended a) (declarator d of) ts)
      (left (further_declarator d of))
  unfolding declarators left
  declarators_is a ts = refl

  pub declarator_good : (a : MemberList) → MayTurn (LowList d) free a →
      Good (further d of a) (Further of a) (LowList d) comma (λ _ t. is (punctuator mark.LeftBracket) t)
  declarator_good a may = further_good d of a may.fits

  pub further_is : (a : MemberList) (ts : List Token) → sees comma ts ≡ true →
      further d of a ts ≡ makes (extended a) (declarator d of) (rest_of ts)
  unfolding further
  further_is a ts e = marked_makes mark.Comma (declarator d of) (extended a) ts e

  pub further_read : (a : MemberList) (v : Declared) (ts us : List Token) → sees comma ts ≡ true → declarator d of (rest_of ts) ≡
      Read v us →
      further d of a ts ≡ Read (extended a v) us
  further_read a v ts us e r = further_is a ts e ∙ ap (λ o. and_then o (λ v us. Read (extended a v) us)) r

  pub ended_is : (a : MemberList) (ts : List Token) → ended d of a ts ≡ makes (λ c. c.0)
      (thens (declarators d of a) (λ _. punct mark.Semicolon)) ts
  unfolding ended
  ended_is a ts = refl

-- ---- members

-- a further member
abbrev pub further_member : ℕ → Loop Token MemberList
further_member d = record { test = λ _. begins_type; room = free; step = member d }

module _ (d : ℕ) where
  pub member_is : (a : MemberList) (ts : List Token) → member d a ts ≡ makes (λ c. c.1) (thens base (λ b. ended d b.ty a)) ts
  unfolding member
  member_is a ts = refl

  pub members_is : (ts : List Token) → members d ts ≡ and_then (member d no_members ts) (left (further_member d))
  unfolding members left
  members_is ts = refl

  pub behind_good : (a : MemberList) → MayTurn (LowList d) free a → Good (member d a) (MemberBehind a) (LowList d) begins_type nothing
  behind_good a may = member_good d a may.fits

  pub body_is : (ts : List Token) → body d ts ≡ makes body_of
      (thens (punct mark.LeftBrace) (λ _. thens (members d) (λ _. punct mark.RightBrace))) ts
  unfolding body
  body_is ts = refl
