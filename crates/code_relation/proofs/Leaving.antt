-- An example: a jump follows a `break` that leaves no scope.
use Rattle.std.specs.Prelude.{◌≡◌, ℕ, zero, suc, [], ◌∷◌, refl}
use Rattle.std.proofs.Common.{arith, ap, sym, subst}
use Rattle.c_ast.specs.declared.token.Span.{Span}
use Rattle.c_type_base.specs.declared.statement.TItem.TheOpen.{TStmt-F}
use Rattle.c_type_base.specs.declared.statement.TStmt.{TStmt, out-TStmt}
use Rattle.a64_code.specs.State.{State, at_pc}
use Rattle.block_meaning.specs.Meaning.{calls_at}
use Rattle.block_meaning.specs.Running.{Function, Context, State as MeaningState}
use Rattle.block_meaning.specs.Statements.{statements_at, stmt_node}
use Rattle.code_runs.specs.Bounded.{Bounded, later}
use Rattle.code_runs.specs.Laws.Bounded.{opened, done, after, unsaid}
use Rattle.code_runs.specs.Laws.Ranges.{IsInRange-Steps}
use Rattle.sym_code.specs.declared.item.SymItem.TheVariants as item
use Rattle.code_relation.specs.Follows.{Code, setting}
use Rattle.code_relation.specs.Items.{Place, GoesTo}
use Rattle.code_relation.specs.Outcomes.{outcome_of}
use Rattle.code_relation.specs.Relates.{Relates}
use Rattle.code_relation.specs.Sites.{units_of}
use Rattle.c_type_base.specs.declared.typed.Typed.{Typed}
use Rattle.code_relation.specs.Trees.{Part, Exits, no_scope, statement_room, ComesBy, FollowsStatement}
use Rattle.code_relation.specs.Laws.Keeps.{KeepsFrom-bytes}
use Rattle.code_relation.specs.Laws.Kept.{Injects-same}

abbrev jump : Typed → Function → ℕ → ℕ → Part
jump file f first n = record { file = file; function = f; items = item.Jump n ∷ []; first = first }

break_follows : (file : Typed) (f : Function) (first broke continued : ℕ) (st : TStmt) (span : Span) → out-TStmt st ≡ TStmt-F.Break span →
    FollowsStatement (jump file f first broke) broke continued st
break_follows file f first broke continued st span is = record {
  follows = λ c p scope placed of_scope ordered fresh bound depth. record {
    does = λ here now s within relates begins. record {
      extra = 0;
      bounded = by_depth c p bound depth here now s relates (placed.stands.acts 0 (item.Jump broke) refl s (record {
        pc = begins.0.1;
        as_loaded = relates.injects.as_loaded;
        in_range = relates.injects.in_range;
      }));
    };
  };
}
  where
    exits : Place → Exits
    exits p = record { broke = p.label broke; continued = p.label continued }

    by_depth : (c : Code) (p : Place) (bound depth : ℕ) (here : Context) (now : MeaningState) (s : State) → Relates c.given here now s →
        GoesTo c (p.label broke) s →
        Bounded (setting c) (later 0 (opened (setting c) now.work)) (statement_room 0) s
        (ComesBy c.given (jump file f first broke) p (exits p) here s 0)
        (outcome_of ((statements_at (calls_at bound) depth).run here st now))
    by_depth c p bound zero here now s relates goes = unsaid
    by_depth c p bound (suc depth) here now s relates goes =
        subst (λ q. Bounded (setting c) (later 0 (opened (setting c) now.work)) (statement_room 0) s
        (ComesBy c.given (jump file f first broke) p (exits p) here s 0) (outcome_of q))
        (sym (ap (λ layer. stmt_node (statements_at (calls_at bound) depth) here layer now) is))
        (after goes.led
        (done
        (record { least = omega arith; most = omega (arith, goes.most) }) (
          record {
            relates = record {
              injects = Injects-same (record {
                sp = refl;
                base = refl;
                byte = refl;
                tag = refl;
                regions = refl;
                guard = refl;
                choices = refl;
                drawn = refl;
              }) (IsInRange-Steps goes.steps goes.led.steps relates.injects.in_range) relates.injects;
              outside = record {
                output = relates.outside.output;
                input = relates.outside.input;
                bytes = relates.outside.bytes;
                takes = relates.outside.takes;
                puts = relates.outside.puts;
              };
            };
            pc = refl;
            kept = KeepsFrom-bytes (units_of c.given) first s (at_pc (p.label broke) s) here.open_calls refl;
          },
          no_scope,
        )))
