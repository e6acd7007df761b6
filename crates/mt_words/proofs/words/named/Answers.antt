use Rattle.std.proofs.Common.{◌≡◌, sym, subst, IfOk}
use Rattle.mt_words.specs.Found.{Finds, given_as}
use Rattle.mt_words.proofs.Table.{no_name}
use Rattle.mt_words.proofs.words.named.Goals as goal

pub returns-in-go : goal.returns-in-go
returns-in-go c = subst (λ name. IfOk c.go.result (Finds (given_as name c.args.files.items c.args.options))) (sym c.in-go.is) c.go.ensures

pub returns-in-build : goal.returns-in-build
returns-in-build c = subst (λ name. Finds (given_as name c.args.files.items c.args.options) c.build.result) (sym c.in-build.is)
    c.build.ensures

pub returns-in-link : goal.returns-in-link
returns-in-link c = subst (λ name. Finds (given_as name c.args.files.items c.args.options) c.link.result) (sym c.in-link.is) c.link.ensures

pub returns-in-run : goal.returns-in-run
returns-in-run c = subst (λ name. IfOk c.run.result (Finds (given_as name c.args.files.items c.args.options))) (sym c.in-run.is)
    c.run.ensures

pub returns-in-mean : goal.returns-in-mean
returns-in-mean c = subst (λ name. Finds (given_as name c.args.files.items c.args.options) c.mean.result) (sym c.in-mean.is) c.mean.ensures

pub returns-in-dump : goal.returns-in-dump
returns-in-dump c = subst (λ name. Finds (given_as name c.args.files.items c.args.options) c.dump.result) (sym c.in-dump.is) c.dump.ensures

pub returns-in-plan : goal.returns-in-plan
returns-in-plan c = subst (λ name. Finds (given_as name c.args.files.items c.args.options) c.plan.result) (sym c.in-plan.is) c.plan.ensures

pub returns : goal.returns
returns c =
    record {
      some = tt;
      none = no_name c.args.command.now _ _ c.in_default.not-go c.in_default.not-build c.in_default.not-link c.in_default.not-run
          c.in_default.not-mean c.in_default.not-dump c.in_default.not-plan;
    }
