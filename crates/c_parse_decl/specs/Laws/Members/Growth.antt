-- A greater limit changes an answer only where it was that a member is too deep.
use Rattle.std.specs.Prelude.{ℕ, suc}
use Rattle.c_ast.specs.declared.expr.CType.{CType}
use Rattle.c_ast.specs.declared.punctuator.Punctuator.TheVariants as mark
use Rattle.c_grammar.specs.Words.{punctuator}
use Rattle.c_parse_base.specs.Reading.Words.{is, punct}
use Rattle.c_parse_base.specs.Laws.Deeper.{Grows, grows_same, grows_then, grows_made, grows_chain}
use Rattle.c_parse_base.specs.Reading.TypeNames.{begins_type, base}
use Rattle.c_parse_decl.specs.Laws.Declarators.Growth.{declarator_grows}
use Rattle.c_parse_decl.specs.declared.members.member_list.MemberList.{MemberList}
use Rattle.c_parse_decl.specs.Reading.Members.{extended, no_members, body_of, free, further, declarators, ended, member, members, body}

module _ (d : ℕ) where
  further_grows : (of : CType) (a : MemberList) → Grows (further d of a) (further (suc d) of a)
  unfolding further
  further_grows of a = grows_made (λ c. extended a c.1) (grows_then (grows_same (punct mark.Comma)) (λ _. declarator_grows d of))

  declarators_grow : (of : CType) (a : MemberList) → Grows (declarators d of a) (declarators (suc d) of a)
  unfolding declarators
  declarators_grow of a =
      grows_chain (is (punctuator mark.Comma)) free free (λ b e. e) (λ b e. further_grows of b)
      (grows_made (extended a) (declarator_grows d of))

  ended_grows : (of : CType) (a : MemberList) → Grows (ended d of a) (ended (suc d) of a)
  unfolding ended
  ended_grows of a = grows_made (λ c. c.0) (grows_then (declarators_grow of a) (λ _. grows_same (punct mark.Semicolon)))

  member_grows : (a : MemberList) → Grows (member d a) (member (suc d) a)
  unfolding member
  member_grows a = grows_made (λ c. c.1) (grows_then (grows_same base) (λ b. ended_grows b.ty a))

  members_grow : Grows (members d) (members (suc d))
  unfolding members
  members_grow = grows_chain begins_type free free (λ a e. e) (λ a e. member_grows a) (member_grows no_members)

  -- by one level
  pub body_grows : Grows (body d) (body (suc d))
  unfolding body
  body_grows = grows_made body_of (grows_then (grows_same (punct mark.LeftBrace))
      (λ _. grows_then members_grow (λ _. grows_same (punct mark.RightBrace))))
