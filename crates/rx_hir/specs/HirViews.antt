-- What an expression of the program stands for.
use Rattle.std.specs.Prelude.{option_map, string_bytes}
use Rattle.std.specs.Int.NonZero.{non_zero_usize_get}
use Rattle.rx_model.specs.Expression.{Expression, empty, literal, class, look, repetition, capture, concat, alternation}
use Rattle.rx_search.specs.Look.{kind_of}
use Rattle.rx_class.specs.ClassViews.{class_view}
use Rattle.rx_hir.specs.Normal.{expressions}
use Rattle.rx_hir.specs.declared.hir.HirKind.{HirKind}
use Rattle.rx_hir.specs.declared.hir.HirKind.TheVariants.{Empty, Literal, Class as Set, Look as Assertion, Repetition, Capture, Concat, Alternation}

-- one node, whose children are seen as expressions already
abbrev pub kind_view : HirKind → Expression
kind_view Empty = empty
kind_view (Literal bytes) = literal bytes.items
kind_view (Set members) = class (class_view members)
kind_view (Assertion kind) = look (kind_of kind)
kind_view (Repetition r) = repetition r.min r.max r.greedy r.sub.value
kind_view (Capture c) = capture (non_zero_usize_get c.index) (option_map string_bytes c.name) c.sub.value
kind_view (Concat subs) = concat (expressions subs.items)
kind_view (Alternation subs) = alternation (expressions subs.items)
