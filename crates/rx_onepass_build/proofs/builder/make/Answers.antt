use Rattle.std.proofs.Common.{sym, subst}
use Rattle.std.proofs.lemmas.Result.{err_from_is_err_and, IfOk-weaker, IfErr-weaker}
use Rattle.rx_search.specs.ByteClasses.{AreRepresentatives}
use Rattle.rx_onepass_build.specs.Build.{IsMadeInVain}
use Rattle.rx_onepass_build.specs.Stop.{error_of}
use Rattle.rx_onepass_build.specs.declared.entries.Layout.{Layout}
use Rattle.rx_onepass_build.proofs.lemmas.BuildLemmas.{built-of}
use Rattle.rx_onepass_build.proofs.lemmas.LayoutLemmas.{classes-for, laid-out, layout-wide}
use Rattle.rx_onepass_build.proofs.builder.make.Goals as goal

pub returns-in_err-bytes-clause-refused : goal.returns-in_err-bytes-clause-refused
returns-in_err-bytes-clause-refused c =
    let e = err_from_is_err_and c.from_residual.result c.from_residual.ensures.1 in
    let of = classes-for c.args.config.now c.args.nfa.now c.classes_of-classes.result c.get_byte_classes-shared.result c.get_byte_classes-shared.ensures
    c.classes_of-classes.ensures.classes c.classes_of-classes.ensures.own c.classes_of-classes.ensures.single in
    let laid = laid-out c.args.config.now c.args.nfa.now c.classes_of-classes.result c.get_starts_for_each_pattern-each.result c.stride2_of-stride2.result
    c.stride_of-stride.result c.start_count-starts.result c.get_size_limit-limit.result of c.get_starts_for_each_pattern-each.ensures
    c.stride2_of-stride2.ensures.power c.stride_of-stride.ensures.power c.start_count-starts.ensures.value c.get_size_limit-limit.ensures in
    rw (e.1, e.2) (c.requires, (_, laid, tt))

pub make_table-requires-clause-job : goal.make_table-requires-clause-job
make_table-requires-clause-job c = record {
  in_range = c.states_len-states.ensures.in_range;
  admitted = c.requires;
  classes = c.classes_of-classes.ensures.classes;
  bytes = subst (AreRepresentatives c.classes_of-classes.result) (sym c.as_slice.ensures.value) c.in_ok-bytes.ensures;
  alike = c.classes_of-classes.ensures.alike;
  first = c.explicit_start-first.ensures;
}

pub make_table-requires-clause-wide : goal.make_table-requires-clause-wide
make_table-requires-clause-wide c =
    layout-wide c.classes_of-classes.result c.stride2_of-stride2.result c.stride_of-stride.result c.stride2_of-stride2.ensures.power
    c.stride_of-stride.ensures.power

pub returns-clause-built : goal.returns-clause-built
returns-clause-built c =
    let of = classes-for c.args.config.now c.args.nfa.now c.classes_of-classes.result c.get_byte_classes-shared.result c.get_byte_classes-shared.ensures
    c.classes_of-classes.ensures.classes c.classes_of-classes.ensures.own c.classes_of-classes.ensures.single in
    let laid = laid-out c.args.config.now c.args.nfa.now c.classes_of-classes.result c.get_starts_for_each_pattern-each.result c.stride2_of-stride2.result
    c.stride_of-stride.result c.start_count-starts.result c.get_size_limit-limit.result of c.get_starts_for_each_pattern-each.ensures
    c.stride2_of-stride2.ensures.power c.stride_of-stride.ensures.power c.start_count-starts.ensures.value c.get_size_limit-limit.ensures in
    IfOk-weaker c.make_table.result _ _
    (λ b t. built-of c.args.config.now _ _ b c.get_starts_for_each_pattern-each.ensures c.requires of laid t)
    c.make_table.ensures.built

pub returns-clause-refused : goal.returns-clause-refused
returns-clause-refused c =
    let of = classes-for c.args.config.now c.args.nfa.now c.classes_of-classes.result c.get_byte_classes-shared.result c.get_byte_classes-shared.ensures
    c.classes_of-classes.ensures.classes c.classes_of-classes.ensures.own c.classes_of-classes.ensures.single in
    let laid = laid-out c.args.config.now c.args.nfa.now c.classes_of-classes.result c.get_starts_for_each_pattern-each.result c.stride2_of-stride2.result
    c.stride_of-stride.result c.start_count-starts.result c.get_size_limit-limit.result of c.get_starts_for_each_pattern-each.ensures
    c.stride2_of-stride2.ensures.power c.stride_of-stride.ensures.power c.start_count-starts.ensures.value c.get_size_limit-limit.ensures in
    let layout : Layout = record { stride = c.stride_of-stride.result; starts = c.start_count-starts.result; limit = c.get_size_limit-limit.result } in
    IfErr-weaker c.make_table.result (λ stop. IsMadeInVain c.args.nfa.now c.get_starts_for_each_pattern-each.result layout (error_of stop)) _
    (λ stop h. (
      c.requires,
      (layout, laid, subst (λ b. IsMadeInVain c.args.nfa.now b layout (error_of stop)) c.get_starts_for_each_pattern-each.ensures h),
    ))
    c.make_table.ensures.refused
