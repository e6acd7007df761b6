-- A refusal with its place, and those of a source as the compiler gives them.
use Rattle.c_lex.specs.Refusal.{place_of}
use Rattle.c_lex.specs.declared.fault.LexRefusal.{LexRefusal}
use Rattle.c_lex.specs.declared.fault.LexRefusal.TheVariants as lex
use Rattle.c_types.specs.Refusal.{place_of as type_place_of}
use Rattle.c_types.specs.declared.refusal.TypeRefusal.{TypeRefusal}
use Rattle.c_types.specs.declared.refusal.TypeRefusal.TheVariants as types
use Rattle.frame_plan.specs.Refusal.{place_of as plan_place_of}
use Rattle.frame_plan.specs.declared.refusal.PlanRefusal.{PlanRefusal}
use Rattle.frame_plan.specs.declared.refusal.PlanRefusal.TheVariants as plan
use Rattle.mt_compile.specs.declared.refused.Refused.{Refused}
use Rattle.mt_compile.specs.declared.refusal.CompileRefusal.{CompileRefusal}
use Rattle.mt_compile.specs.declared.refusal.CompileRefusal.TheVariants.{Lex, Types, Plan, NoMemory}

-- a refusal that names no place
abbrev pub without_place : {R : Type 0} → R → Refused R
without_place refusal = record { refusal = refusal; place = 0 }

-- the refusal of a text that is too long, or not gaps and tokens in turn, and its byte
abbrev pub of_text : LexRefusal → Refused CompileRefusal
of_text lex.NoMemory = without_place NoMemory
of_text refusal = record { refusal = Lex refusal; place = place_of refusal }

-- the refusal of a program that breaks a rule on types, and where its construct starts
abbrev pub of_types : TypeRefusal → Refused CompileRefusal
of_types types.NoMemory = without_place NoMemory
of_types refusal = record { refusal = Types refusal; place = type_place_of refusal }

-- the refusal of a program with too many functions or a frame that is too large, and where that function starts
abbrev pub of_plan : PlanRefusal → Refused CompileRefusal
of_plan plan.NoMemory = without_place NoMemory
of_plan refusal = record { refusal = Plan refusal; place = plan_place_of refusal }
