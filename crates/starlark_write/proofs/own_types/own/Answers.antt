use Rattle.std.proofs.Common.{sym, ap, ◌∙◌, subst}
use Rattle.starlark_ast.specs.declared.ast.ParameterP.TheVariants as parameter
use Rattle.starlark_write.specs.Beside.{block_of}
use Rattle.starlark_write.specs.BesideTypes as beside
use Rattle.starlark_write.specs.BesideTypes.{KeepsOwn}
use Rattle.starlark_write.proofs.Lent.{seen}
use Rattle.starlark_write.proofs.own_types.own.Goals as goal

pub returns-in-Slash-clause-kept : goal.returns-in-Slash-clause-kept
returns-in-Slash-clause-kept g c = subst (λ q. KeepsOwn q q) (sym c.in-Slash.is) beside.slash

pub returns-in-NoArgs-clause-kept : goal.returns-in-NoArgs-clause-kept
returns-in-NoArgs-clause-kept g c = subst (λ q. KeepsOwn q q) (sym c.in-NoArgs.is) beside.no_args

pub returns-in-Normal-clause-kept : goal.returns-in-Normal-clause-kept
returns-in-Normal-clause-kept g c =
    let arm = c.in-Normal in
    let call = c.between in
    seen KeepsOwn arm.is (subst (λ q. KeepsOwn (parameter.Normal arm.name arm.ty arm.default) (parameter.Normal q call.new.ty call.new.default)) (sym (call.ensures.name ∙ arm.name-is))
    (subst (λ q. KeepsOwn (parameter.Normal arm.name arm.ty arm.default) (parameter.Normal arm.name call.new.ty q)) (sym (call.ensures.default ∙ arm.default-is)) (beside.normal _ _ _ _ (call.ensures.kept ∙ ap block_of arm.ty-is))))

pub returns-in-Args-clause-kept : goal.returns-in-Args-clause-kept
returns-in-Args-clause-kept g c =
    let arm = c.in-Args in
    let call = c.behind in
    seen KeepsOwn arm.is (subst (λ q. KeepsOwn (parameter.Args arm.name arm.ty) (parameter.Args q call.new.ty)) (sym (call.ensures.name ∙ arm.name-is)) (beside.args_own _ _ _ (call.ensures.kept ∙ ap block_of arm.ty-is)))

pub returns-in-KwArgs-clause-kept : goal.returns-in-KwArgs-clause-kept
returns-in-KwArgs-clause-kept g c =
    let arm = c.in-KwArgs in
    let call = c.behind-in-KwArgs in
    seen KeepsOwn arm.is (subst (λ q. KeepsOwn (parameter.KwArgs arm.name arm.ty) (parameter.KwArgs q call.new.ty)) (sym (call.ensures.name ∙ arm.name-is)) (beside.kwargs_own _ _ _ (call.ensures.kept ∙ ap block_of arm.ty-is)))
