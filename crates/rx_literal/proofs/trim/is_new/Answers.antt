use Rattle.std.proofs.Common.{◌≡◌, ◌≤◌, true, false, length, take, drop, ap, sym, subst, ◌∙◌}
use Rattle.std.specs.Prelude.{not, ◌||◌, nat_eq}
use Rattle.std.specs.List.{list_all, list_any, starts_with}
use Rattle.std.proofs.lemmas.List.{take-append-drop}
use Rattle.rx_literal.specs.Literals.{bytes_of}
use Rattle.rx_literal.specs.declared.order.Order.TheVariants.{Branches as by_branches}
use Rattle.rx_literal.specs.Order.{follows, InOrder}
use Rattle.rx_literal.specs.Trim.{has_prefix_in}
use Rattle.rx_literal.proofs.lemmas.trimming.PartedLemmas.{prefix-found, covered-before, covered-after, parted-whole, put-there, rest-apart}
use Rattle.rx_literal.proofs.trim.is_new.Goals as goal

pub returns : goal.returns
returns c =
    let ls = c.args.least.now.items in
    let l = c.args.literal.now in
    let k = c.position-at.result in
    let front = subst (λ ys. list_all (follows by_branches l) (take k ys) ≡ true) c.deref.ensures.value c.position-at.ensures.before in
    let back = subst (λ ys. list_any (follows by_branches l) (drop k ys) ≡ false) c.deref.ensures.value c.position-at.ensures.after in
    let le = subst (λ ys. k ≤ length ys) c.deref.ensures.value c.position-at.ensures.bound in
    let apart : has_prefix_in c.args.least.now.items c.args.literal.now ≡ false
    = prefix-found l ls k c.requires front back ∙ ap (λ ys. has_prefix_in (take 1 (drop k ys)) l) (sym c.deref-2.ensures.value)
    ∙ sym c.has_prefix_at.ensures
    ∙ c.if-has_prefix_at.false in
    let whole = take-append-drop k ls in
    let ms = c.drop_longer.new.literals.items in
    let is = put-there l c.lent.result ls ms c.insert.new.self.items k le c.drop_longer.ensures c.lent.ensures c.in_ok-insert.ensures.items in
    record {
      parted = subst (InOrder by_branches) (sym is)
          (parted-whole l (take k ls) (drop k ls) (subst (InOrder by_branches) (sym whole) c.requires) front back
          (rest-apart l (take k ls) (drop k ls) (subst (λ ys. has_prefix_in ys l ≡ false) (sym whole) apart)));
      value = ap not (sym apart);
      covered = λ x. ap (λ ys. has_prefix_in ys x) is ∙ covered-after l x (take k ls) (drop k ls)
          ∙ ap (λ ys. has_prefix_in ys x || starts_with nat_eq (bytes_of x) (bytes_of l)) whole;
    }

found : (c : goal.Then-has_prefix_at) → has_prefix_in c.args.least.now.items c.args.literal.now ≡ true
found c =
    let l = c.args.literal.now in
    let k = c.position-at.result in
    let front = subst (λ ys. list_all (follows by_branches l) (take k ys) ≡ true) c.deref.ensures.value c.position-at.ensures.before in
    let back = subst (λ ys. list_any (follows by_branches l) (drop k ys) ≡ false) c.deref.ensures.value c.position-at.ensures.after in
    prefix-found l c.args.least.now.items k c.requires front back ∙ ap (λ ys. has_prefix_in (take 1 (drop k ys)) l) (sym c.deref-2.ensures.value)
    ∙ sym c.has_prefix_at.ensures
    ∙ c.if-has_prefix_at.true

pub returns-then-has_prefix_at-clause-value : goal.returns-then-has_prefix_at-clause-value
returns-then-has_prefix_at-clause-value c = ap not (sym (found c))

pub returns-then-has_prefix_at-clause-covered : goal.returns-then-has_prefix_at-clause-covered
returns-then-has_prefix_at-clause-covered c = covered-before c.args.least.now.items c.args.literal.now (found c)
