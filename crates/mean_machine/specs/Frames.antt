-- The machine: what it does next, and what waits for that on its stack. All are this project's own.
use Rattle.std.specs.Prelude.{ℕ, Bool, List, Option}
use Rattle.c_ast.specs.declared.token.Span.{Span}
use Rattle.c_ast.specs.declared.operator.UnaryOperator.{UnaryOperator}
use Rattle.c_ast.specs.declared.operator.BinaryOperator.{BinaryOperator}
use Rattle.c_ast.specs.declared.operator.AssignOperator.{AssignOperator}
use Rattle.c_ast.specs.declared.operator.Step.{Step}
use Rattle.c_type_base.specs.declared.ty.Ty.{Ty}
use Rattle.c_type_base.specs.declared.expr.TExpr.{TExpr}
use Rattle.c_type_base.specs.declared.expr.Callee.{Callee}
use Rattle.c_type_base.specs.declared.statement.TInit.{TInit}
use Rattle.c_type_base.specs.declared.statement.TDecl.{TDecl}
use Rattle.c_type_base.specs.declared.statement.TItem.{TItem}
use Rattle.c_type_base.specs.declared.statement.TStmt.{TStmt}
use Rattle.c_type_base.specs.declared.typed.MemberInfo.{MemberInfo}
use Rattle.block_meaning.specs.declared.value.Pointer.{Pointer}
use Rattle.block_meaning.specs.Memory.{Object}
use Rattle.block_meaning.specs.Running.{Call, Context, State, Stop}
use Rattle.block_meaning.specs.Statements.{Flow, Heading}
use Rattle.block_meaning.specs.declared.value.Value.{Value}

pub data Loop : Type 0 where
  While : TExpr → TStmt → Loop
  DoWhile : TStmt → TExpr → Loop
  For : Heading → TStmt → Loop

-- what is done next, or what was done
pub data Control : Type 0 where
  -- the value of an expression, where it stands in parentheses of this span
  Evaluate : Span → TExpr → Control
  -- the place of what an expression designates
  Locate : TExpr → Control
  Execute : TStmt → Control
  Declare : List TDecl → Control
  Fill : Object → TInit → Control
  GivesValue : Value → Control
  GivesPlace : Pointer → Control
  GivesFlow : Flow → Control
  Finished : Control

-- a part of an expression that waits for the value of an operand
pub data OperandFrame : Type 0 where
  Unary : UnaryOperator → TExpr → OperandFrame
  LogicalFirst : Bool → TExpr → TExpr → OperandFrame
  LogicalSecond : TExpr → OperandFrame
  BinaryLeft : Span → BinaryOperator → TExpr → TExpr → OperandFrame
  BinaryRight : Span → BinaryOperator → TExpr → TExpr → Value → OperandFrame
  AssignRight : Span → Option AssignOperator → TExpr → TExpr → Pointer → OperandFrame
  Condition : TExpr → TExpr → TExpr → OperandFrame
  CastTo : Ty → OperandFrame
  ConvertTo : Ty → OperandFrame
  -- the arguments that were evaluated, and those that are left
  Argument : Span → Callee → List Value → List TExpr → OperandFrame
  PointerIn : OperandFrame
  Dereferenced : OperandFrame
  IndexLeft : Ty → TExpr → OperandFrame
  IndexRight : Ty → Value → OperandFrame
  ArrowTo : TExpr → ℕ → OperandFrame

-- a part of a statement or of an initialiser that waits for a value
pub data ValueFrame : Type 0 where
  Effect : ValueFrame
  Drop : ValueFrame
  IfTest : TExpr → TStmt → Option TStmt → ValueFrame
  Test : Loop → TExpr → ValueFrame
  ThenTurn : Loop → ValueFrame
  Return : ValueFrame
  FillStruct : Object → TExpr → ValueFrame
  FillScalar : Object → TExpr → ValueFrame

-- a part of an expression that waits for a place
pub data PlaceFrame : Type 0 where
  Addressed : PlaceFrame
  AssignLeft : Span → Option AssignOperator → TExpr → TExpr → PlaceFrame
  Stepped : Step → TExpr → PlaceFrame
  ReadFrom : TExpr → PlaceFrame
  Decayed : PlaceFrame
  MemberAt : TExpr → ℕ → PlaceFrame
  -- by the span of the parentheses round it, and its type
  MemberRead : TExpr → ℕ → Span → Ty → PlaceFrame

-- what waits for the end of a statement
pub data FlowFrame : Type 0 where
  Items : List TItem → FlowFrame
  -- what was outside the scope, and the locals that end with it
  Scope : Context → List ℕ → FlowFrame
  Body : Loop → FlowFrame
  -- what was outside the call, and the result's type
  Called : Context → Call → Ty → FlowFrame

-- what waits for the end of a declaration or of an initialiser
pub data DoneFrame : Type 0 where
  Declared : List TDecl → DoneFrame
  AfterDeclarations : DoneFrame
  ForDeclared : Heading → TStmt → DoneFrame
  Elements : Object → ℕ → List TInit → DoneFrame
  Members : Pointer → List MemberInfo → List TInit → DoneFrame

pub data Frame : Type 0 where
  OnOperand : OperandFrame → Frame
  OnValue : ValueFrame → Frame
  OnPlace : PlaceFrame → Frame
  OnFlow : FlowFrame → Frame
  OnDone : DoneFrame → Frame

pub data Machine : Type 0 where
  Runs : Control → Context → List Frame → State → Machine
  Ended : Stop → State → Machine
