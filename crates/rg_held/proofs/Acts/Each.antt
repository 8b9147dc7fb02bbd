-- Each instruction beside that over the growing store, in the order of the instructions.
use Rattle.std.proofs.Common.{◌≡◌, true, false, not, Bool as Truth, List, [], refl}
use Rattle.rg_base.specs.declared.value.Val.{Val}
use Rattle.rg_base.specs.declared.value.Val.TheVariants as val
use Rattle.rg_tree.specs.declared.rows.BinOp.TheVariants as op
use Rattle.rg_rules.specs.Values.{as_bool, is_nil_value}
use Rattle.rg_code.specs.declared.op.Op.{Op}
use Rattle.rg_code.specs.declared.op.Op.TheVariants as i
use Rattle.rg_stack.specs.Tops.{Work}
use Rattle.rg_held.specs.Ends.{Match}
use Rattle.rg_held.specs.Laws.{owners_of, ActSame}
use Rattle.rg_held.proofs.Lists.{off}
use Rattle.rg_held.proofs.Acts.Stack.{match-more, two-same, push-same}
use Rattle.rg_held.proofs.Acts.Easy.{stop-same, load-same, field-same, check-same, top-same, neg-same, and-same, or-same, more-same, size-same}
use Rattle.rg_held.proofs.Acts.Easy.{bound-same, element-same}
use Rattle.rg_held.proofs.Acts.Easy.{room-same, read-same, jump-false-same, print-same, clear-same, store-same, call-same}
use Rattle.rg_held.proofs.Acts.Return.{own-same, end-same, drop-same, pop-same, ret-same, ret-void-same}
use Rattle.rg_held.proofs.Acts.Leave.{leave-same, leave-giving-same}
use Rattle.rg_held.proofs.Acts.Object.{new-same, new-temp-same, new-region-same, put-same, swap-same, new-array-same, new-temp-array-same}
use Rattle.rg_held.proofs.Acts.Object.{new-region-array-same, put-element-same}
use Rattle.rg_held.proofs.Acts.Consume.{freeze-same, merge-same}
use Rattle.rg_held.proofs.Acts.Enter.{enter-same, enter-field-same}

-- what computes stands where nothing was taken
compute : {P : Type 0} (taken : Truth) (u w : Work) (stack : List Val) → not taken ≡ true → Match (owners_of taken stack) u w stack
    → (Match [] u w stack → P) → P
compute true u w stack a m f = off a
compute false u w stack a m f = f m

pub act-same : (o : Op) → ActSame o
act-same (i.Mark line) code at also go taken stack u w a n m next jump = (refl, stop-same at taken stack u w n m)
act-same (i.Int z) code at also go taken stack u w a n m next jump =
    compute taken u w stack a m (λ m. push-same also go u w (val.Int z) stack m refl (next refl))
act-same (i.Bool b) code at also go taken stack u w a n m next jump =
    compute taken u w stack a m (λ m. push-same also go u w (val.Bool b) stack m refl (next refl))
act-same i.Nil code at also go taken stack u w a n m next jump =
    compute taken u w stack a m (λ m. push-same also go u w val.Nil stack m refl (next refl))
act-same (i.Load s) code at also go taken stack u w a n m next jump =
    compute taken u w stack a m (λ m. load-same code at also go u w s stack m (next refl))
act-same (i.Clear s) code at also go taken stack u w a n m next jump = clear-same code at also go u w s taken stack n m (next refl)
act-same (i.Store s) code at also go taken stack u w a n m next jump = store-same code at also go u w s taken stack n m (next refl)
act-same (i.Own s) code at also go taken stack u w a n m next jump = own-same code at also go u w taken s stack n m (next refl)
act-same (i.Field k) code at also go taken stack u w a n m next jump =
    compute taken u w stack a m (λ m. field-same code at also go u w k stack m (next refl))
act-same i.IsNil code at also go taken stack u w a n m next jump =
    compute taken u w stack a m (λ m. top-same code at also go u w (λ v. val.Bool (is_nil_value v)) (λ t v. refl) stack m (next refl))
act-same i.Neg code at also go taken stack u w a n m next jump = compute taken u w stack a m (λ m. neg-same code at also go u w stack m (next refl))
act-same i.Add code at also go taken stack u w a n m next jump = compute taken u w stack a m (λ m. two-same also go u w op.Add stack m (next refl))
act-same i.Sub code at also go taken stack u w a n m next jump = compute taken u w stack a m (λ m. two-same also go u w op.Sub stack m (next refl))
act-same i.Mul code at also go taken stack u w a n m next jump = compute taken u w stack a m (λ m. two-same also go u w op.Mul stack m (next refl))
act-same i.Div code at also go taken stack u w a n m next jump = compute taken u w stack a m (λ m. two-same also go u w op.Div stack m (next refl))
act-same i.Rem code at also go taken stack u w a n m next jump = compute taken u w stack a m (λ m. two-same also go u w op.Rem stack m (next refl))
act-same i.Eq code at also go taken stack u w a n m next jump = compute taken u w stack a m (λ m. two-same also go u w op.Eq stack m (next refl))
act-same i.Ne code at also go taken stack u w a n m next jump = compute taken u w stack a m (λ m. two-same also go u w op.Ne stack m (next refl))
act-same i.Lt code at also go taken stack u w a n m next jump = compute taken u w stack a m (λ m. two-same also go u w op.Lt stack m (next refl))
act-same i.Le code at also go taken stack u w a n m next jump = compute taken u w stack a m (λ m. two-same also go u w op.Le stack m (next refl))
act-same i.Gt code at also go taken stack u w a n m next jump = compute taken u w stack a m (λ m. two-same also go u w op.Gt stack m (next refl))
act-same i.Ge code at also go taken stack u w a n m next jump = compute taken u w stack a m (λ m. two-same also go u w op.Ge stack m (next refl))
act-same i.Not code at also go taken stack u w a n m next jump =
    compute taken u w stack a m (λ m. top-same code at also go u w (λ v. val.Bool (not (as_bool v))) (λ t v. refl) stack m (next refl))
act-same (i.Jump t) code at also go taken stack u w a n m next jump = (refl, stop-same t taken stack u w n m)
act-same (i.JumpFalse t) code at also go taken stack u w a n m next jump =
    jump-false-same code at also go u w t taken stack n m (next refl) (jump refl)
act-same (i.And t) code at also go taken stack u w a n m next jump =
    compute taken u w stack a m (λ m. and-same code at also go u w t stack m (next refl) (jump refl))
act-same (i.Or t) code at also go taken stack u w a n m next jump =
    compute taken u w stack a m (λ m. or-same code at also go u w t stack m (next refl) (jump refl))
act-same i.Check code at also go taken stack u w a n m next jump =
    compute taken u w stack a m (λ m. check-same code at also go u w stack m (next refl))
act-same (i.New c) code at also go taken stack u w a n m next jump = new-same code at also go u w taken c stack n m (next refl)
act-same (i.NewTmp c) code at also go taken stack u w a n m next jump = new-temp-same code at also go u w taken c stack n m (next refl)
act-same (i.NewIso c g) code at also go taken stack u w a n m next jump = new-region-same code at also go u w taken c g stack n m (next refl)
act-same i.Pace code at also go taken stack u w a n m next jump = (next refl) stack u w (match-more taken u w stack m)
act-same (i.Put k) code at also go taken stack u w a n m next jump = put-same code at also go u w taken k stack n m (next refl)
act-same (i.Swap s k) code at also go taken stack u w a n m next jump = swap-same code at also go u w taken s k stack n m (next refl)
act-same (i.Freeze s) code at also go taken stack u w a n m next jump = freeze-same code at also go u w taken s stack n m (next refl)
act-same (i.Merge s) code at also go taken stack u w a n m next jump = merge-same code at also go u w taken s stack n m (next refl)
act-same i.Read code at also go taken stack u w a n m next jump = read-same code at also go u w taken stack m (next refl)
act-same i.More code at also go taken stack u w a n m next jump = compute taken u w stack a m (λ m. more-same code at also go u w stack m (next refl))
act-same i.Room code at also go taken stack u w a n m next jump = compute taken u w stack a m (λ m. room-same code at also go u w stack m (next refl))
act-same (i.Call k) code at also go taken stack u w a n m next jump = call-same code at also go u w k taken stack n m
act-same i.Ret code at also go taken stack u w a n m next jump = ret-same code at also go u w taken stack n m
act-same i.RetVoid code at also go taken stack u w a n m next jump = ret-void-same code at also go u w taken stack n m
act-same (i.Enter s z) code at also go taken stack u w a n m next jump = enter-same code at also go u w taken s z stack n m (next refl)
act-same (i.EnterField k z) code at also go taken stack u w a n m next jump = enter-field-same code at also go u w taken k z stack n m (next refl)
act-same (i.Leave s) code at also go taken stack u w a n m next jump = leave-same code at also go u w taken s stack n m (next refl)
act-same (i.End s) code at also go taken stack u w a n m next jump = end-same code at also go u w taken s stack n m (next refl)
act-same i.Print code at also go taken stack u w a n m next jump = print-same code at also go u w taken stack n m (next refl)
act-same i.Collect code at also go taken stack u w a n m next jump = (next refl) stack u w (match-more taken u w stack m)
act-same i.Pop code at also go taken stack u w a n m next jump = pop-same code at also go u w taken stack n m (next refl)
act-same i.Drop code at also go taken stack u w a n m next jump = drop-same code at also go u w taken stack n m (next refl)
act-same i.Halt code at also go taken stack u w a n m next jump = (refl, stop-same at taken stack u w n m)
act-same (i.NewArray c) code at also go taken stack u w a n m next jump = new-array-same code at also go u w taken c stack n m (next refl)
act-same (i.NewTmpArray c) code at also go taken stack u w a n m next jump =
    new-temp-array-same code at also go u w taken c stack n m (next refl)
act-same (i.NewIsoArray c g) code at also go taken stack u w a n m next jump =
    new-region-array-same code at also go u w taken c g stack n m (next refl)
act-same i.Size code at also go taken stack u w a n m next jump =
    compute taken u w stack a m (λ m. size-same code at also go u w stack m (next refl))
act-same i.Bound code at also go taken stack u w a n m next jump =
    compute taken u w stack a m (λ m. bound-same code at also go u w stack m (next refl))
act-same i.Element code at also go taken stack u w a n m next jump =
    compute taken u w stack a m (λ m. element-same code at also go u w stack m (next refl))
act-same i.PutElement code at also go taken stack u w a n m next jump = put-element-same code at also go u w taken stack n m (next refl)
act-same (i.LeaveGiving v s) code at also go taken stack u w a n m next jump =
    leave-giving-same code at also go u w taken v s stack n m (next refl)
