use Rattle.std.proofs.Common.{None, length, false, refl}
use Rattle.rg_tree.specs.Rows.RowTrees.{member_at, class_of}
use Rattle.rg_tree.specs.Rows.RowsExist.{IsClassIn, IsMemberNumber}
use Rattle.rg_make.proofs.Adding.{adds-none, adds-push, adds-order, adds-two, adds-there, adds-class}
use Rattle.rg_make.proofs.classes.add_node_class.Goals as goal

pub add_class-requires : goal.add_class-requires
add_class-requires c =
    let e = c.in_ok-members.ensures in
    adds-there (adds-two {at = class_of} {exists = IsClassIn} (λ n s.
    record { name = n; is_tmp = false; element = None; members = s; line = 1 }) (λ n s.
    record { name = n; is_tmp = false; element = None; members = s; line = 1 }) (λ u n s. refl) (λ u n s p q.
    record { name = p; element = tt; members = q })
    c.in_ok-name.ensures (adds-order member_at (λ t. length t.members) (adds-push (adds-push (adds-none member_at IsMemberNumber _)
    c.in_ok-value.ensures) c.in_ok-next.ensures) e.keeps e.program e.span))

pub returns : goal.returns
returns c =
    let e = c.in_ok-members.ensures in
    let k = c.in_ok-_number.ensures in
    adds-class (adds-two {at = class_of} {exists = IsClassIn} (λ n s.
    record { name = n; is_tmp = false; element = None; members = s; line = 1 }) (λ n s.
    record { name = n; is_tmp = false; element = None; members = s; line = 1 }) (λ u n s. refl) (λ u n s p q.
    record { name = p; element = tt; members = q })
    c.in_ok-name.ensures (adds-order member_at (λ t. length t.members) (adds-push (adds-push (adds-none member_at IsMemberNumber _)
    c.in_ok-value.ensures) c.in_ok-next.ensures) e.keeps e.program e.span)) k.keeps k.program
