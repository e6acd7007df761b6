use Rattle.std.proofs.Common.{◌≡◌, max, map, drop}
use Rattle.frame_layout.specs.Needs.{need, arguments, arguments_from}
use Rattle.frame_layout.proofs.need.+need.Given as goal

-- with what is left it is what all arguments need
abbrev pub invariant-need_call-loop-argument : goal.invariant-need_call-loop-argument
invariant-need_call-loop-argument l =
    max l.most (arguments_from l.waits (map need (drop l.argument-index l.arguments))) ≡ arguments (map need l.arguments)
