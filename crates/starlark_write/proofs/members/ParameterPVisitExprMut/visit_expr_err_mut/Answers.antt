use Rattle.std.proofs.Common.{sym, ap, ◌∙◌, subst}
use Rattle.starlark_write.specs.Beside as beside
use Rattle.starlark_write.specs.Beside.{KeepsMaybeType, KeepsParameter, block_of}
use Rattle.starlark_ast.specs.declared.ast.ParameterP.TheVariants as parameter
use Rattle.starlark_write.proofs.Lent.{seen, seen_left}
use Rattle.starlark_write.proofs.members.ParameterPVisitExprMut.visit_expr_err_mut.Goals as goal

pub returns-in-Slash-clause-kept : goal.returns-in-Slash-clause-kept
returns-in-Slash-clause-kept g c = subst (λ q. KeepsParameter q q) (sym c.in-Slash.is) beside.slash

pub returns-in-NoArgs-clause-kept : goal.returns-in-NoArgs-clause-kept
returns-in-NoArgs-clause-kept g c = subst (λ q. KeepsParameter q q) (sym c.in-NoArgs.is) beside.no_args

pub returns-in-Normal-clause-kept : goal.returns-in-Normal-clause-kept
returns-in-Normal-clause-kept g c =
    seen KeepsParameter c.in-Normal.is (subst (λ q. KeepsParameter (parameter.Normal c.in-Normal.name c.in-Normal.ty c.in-Normal.default) (parameter.Normal q c.normal.new.ty c.normal.new.default)) (sym (c.normal.ensures.other ∙ c.in-Normal.name-is))
    (beside.normal _ _ _ _ _ (seen_left KeepsMaybeType c.in-Normal.ty-is c.normal.ensures.ty) (c.normal.ensures.default ∙ ap block_of c.in-Normal.default-is)))

pub returns-in-Args-clause-kept : goal.returns-in-Args-clause-kept
returns-in-Args-clause-kept g c =
    seen KeepsParameter c.in-Args.is (subst (λ q. KeepsParameter (parameter.Args c.in-Args.name c.in-Args.ty) (parameter.Args q c.typed.new.ty)) (sym (c.typed.ensures.other ∙ c.in-Args.name-is))
    (beside.args_parameter _ _ _ (seen_left KeepsMaybeType c.in-Args.ty-is c.typed.ensures.ty)))

pub returns-in-KwArgs-clause-kept : goal.returns-in-KwArgs-clause-kept
returns-in-KwArgs-clause-kept g c =
    seen KeepsParameter c.in-KwArgs.is (subst (λ q. KeepsParameter (parameter.KwArgs c.in-KwArgs.name c.in-KwArgs.ty) (parameter.KwArgs q c.typed-in-KwArgs.new.ty)) (sym (c.typed-in-KwArgs.ensures.other ∙ c.in-KwArgs.name-is))
    (beside.kwargs_parameter _ _ _ (seen_left KeepsMaybeType c.in-KwArgs.ty-is c.typed-in-KwArgs.ensures.ty)))
