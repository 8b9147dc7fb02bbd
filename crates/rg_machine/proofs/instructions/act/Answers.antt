use Rattle.rg_machine.proofs.instructions.act.Goals as goal

pub returns-in-Bool : goal.returns-in-Bool
returns-in-Bool c = rw c.in-Bool.is (c.constant.ensures c.args.at)

pub returns-in-Nil : goal.returns-in-Nil
returns-in-Nil c = rw c.in-Nil.is (c.constant-in-Nil.ensures c.args.at)

pub returns-in-Load : goal.returns-in-Load
returns-in-Load c = rw c.in-Load.is (c.load.ensures c.args.at)

pub returns-in-Clear : goal.returns-in-Clear
returns-in-Clear c = rw c.in-Clear.is (c.clear.ensures c.args.at)

pub returns-in-Store : goal.returns-in-Store
returns-in-Store c = rw c.in-Store.is (c.store.ensures c.args.at)

pub returns-in-Own : goal.returns-in-Own
returns-in-Own c = rw c.in-Own.is (c.own.ensures c.args.at)

pub returns-in-Field : goal.returns-in-Field
returns-in-Field c = rw c.in-Field.is (c.field.ensures c.args.at)

pub returns-in-IsNil : goal.returns-in-IsNil
returns-in-IsNil c = rw c.in-IsNil.is (c.test_nil.ensures c.args.at)

pub returns-in-Neg : goal.returns-in-Neg
returns-in-Neg c = rw c.in-Neg.is (c.negate.ensures c.args.at)

pub returns-in-Add : goal.returns-in-Add
returns-in-Add c = rw c.in-Add.is (c.binary.ensures c.args.at)

pub returns-in-Sub : goal.returns-in-Sub
returns-in-Sub c = rw c.in-Sub.is (c.binary-in-Sub.ensures c.args.at)

pub returns-in-Mul : goal.returns-in-Mul
returns-in-Mul c = rw c.in-Mul.is (c.binary-in-Mul.ensures c.args.at)

pub returns-in-Div : goal.returns-in-Div
returns-in-Div c = rw c.in-Div.is (c.binary-in-Div.ensures c.args.at)

pub returns-in-Rem : goal.returns-in-Rem
returns-in-Rem c = rw c.in-Rem.is (c.binary-in-Rem.ensures c.args.at)

pub returns-in-Eq : goal.returns-in-Eq
returns-in-Eq c = rw c.in-Eq.is (c.binary-in-Eq.ensures c.args.at)

pub returns-in-Ne : goal.returns-in-Ne
returns-in-Ne c = rw c.in-Ne.is (c.binary-in-Ne.ensures c.args.at)

pub returns-in-Lt : goal.returns-in-Lt
returns-in-Lt c = rw c.in-Lt.is (c.binary-in-Lt.ensures c.args.at)

pub returns-in-Le : goal.returns-in-Le
returns-in-Le c = rw c.in-Le.is (c.binary-in-Le.ensures c.args.at)

pub returns-in-Gt : goal.returns-in-Gt
returns-in-Gt c = rw c.in-Gt.is (c.binary-in-Gt.ensures c.args.at)

pub returns-in-Ge : goal.returns-in-Ge
returns-in-Ge c = rw c.in-Ge.is (c.binary-in-Ge.ensures c.args.at)

pub returns-in-Not : goal.returns-in-Not
returns-in-Not c = rw c.in-Not.is (c.invert.ensures c.args.at)

pub returns-in-JumpFalse : goal.returns-in-JumpFalse
returns-in-JumpFalse c = rw c.in-JumpFalse.is (c.jump_false.ensures c.args.at)

pub returns-in-And : goal.returns-in-And
returns-in-And c = rw c.in-And.is (c.and.ensures c.args.at)

pub returns-in-Or : goal.returns-in-Or
returns-in-Or c = rw c.in-Or.is (c.or.ensures c.args.at)

pub returns-in-Check : goal.returns-in-Check
returns-in-Check c = rw c.in-Check.is (c.check.ensures c.args.at)

pub returns-in-New : goal.returns-in-New
returns-in-New c = rw c.in-New.is (c.new_object.ensures c.args.at)

pub returns-in-NewTmp : goal.returns-in-NewTmp
returns-in-NewTmp c = rw c.in-NewTmp.is (c.new_temp.ensures c.args.at)

pub returns-in-NewIso : goal.returns-in-NewIso
returns-in-NewIso c = rw c.in-NewIso.is (c.new_iso.ensures c.args.at)

pub returns-in-Put : goal.returns-in-Put
returns-in-Put c = rw c.in-Put.is (c.put.ensures c.args.at)

pub returns-in-Swap : goal.returns-in-Swap
returns-in-Swap c = rw c.in-Swap.is (c.swap.ensures.does c.args.at)

pub returns-in-Freeze : goal.returns-in-Freeze
returns-in-Freeze c = rw c.in-Freeze.is (c.freeze.ensures c.args.at)

pub returns-in-Merge : goal.returns-in-Merge
returns-in-Merge c = rw c.in-Merge.is (c.merge.ensures c.args.at)

pub returns-in-Read : goal.returns-in-Read
returns-in-Read c = rw c.in-Read.is (c.ask_number.ensures c.args.at)

pub returns-in-More : goal.returns-in-More
returns-in-More c = rw c.in-More.is (c.ask_more.ensures c.args.at)

pub returns-in-Call : goal.returns-in-Call
returns-in-Call c = rw c.in-Call.is c.call.ensures

pub returns-in-Ret : goal.returns-in-Ret
returns-in-Ret c =
    let p = c.ret.ensures in rw c.in-Ret.is (record { effect = p.effect c.args.at; keeps = p.keeps; high = p.high })

pub returns-in-RetVoid : goal.returns-in-RetVoid
returns-in-RetVoid c =
    let p = c.ret_void.ensures in rw c.in-RetVoid.is (record { effect = p.effect c.args.at; keeps = p.keeps; high = p.high })

pub returns-in-Enter : goal.returns-in-Enter
returns-in-Enter c = rw c.in-Enter.is (c.enter.ensures.does c.args.at)

pub returns-in-EnterField : goal.returns-in-EnterField
returns-in-EnterField c = rw c.in-EnterField.is (c.enter_field.ensures c.args.at)

pub returns-in-Leave : goal.returns-in-Leave
returns-in-Leave c = rw c.in-Leave.is (c.leave.ensures c.args.at)

pub returns-in-End : goal.returns-in-End
returns-in-End c = rw c.in-End.is (c.end.ensures c.args.at)

pub returns-in-Print : goal.returns-in-Print
returns-in-Print c = rw c.in-Print.is (c.print.ensures c.args.at)

pub returns-in-Pop : goal.returns-in-Pop
returns-in-Pop c = rw c.in-Pop.is (c.pop_top.ensures c.args.at)

pub returns-in-Drop : goal.returns-in-Drop
returns-in-Drop c = rw c.in-Drop.is (c.pop_top-in-Drop.ensures c.args.at)

pub returns-in-NewArray : goal.returns-in-NewArray
returns-in-NewArray c = rw c.in-NewArray.is (c.new_array.ensures c.args.at)

pub returns-in-NewTmpArray : goal.returns-in-NewTmpArray
returns-in-NewTmpArray c = rw c.in-NewTmpArray.is (c.new_temp_array.ensures c.args.at)

pub returns-in-NewIsoArray : goal.returns-in-NewIsoArray
returns-in-NewIsoArray c = rw c.in-NewIsoArray.is (c.new_iso_array.ensures c.args.at)

pub returns-in-Size : goal.returns-in-Size
returns-in-Size c = rw c.in-Size.is (c.size.ensures c.args.at)

pub returns-in-Bound : goal.returns-in-Bound
returns-in-Bound c = rw c.in-Bound.is (c.bound.ensures c.args.at)

pub returns-in-Element : goal.returns-in-Element
returns-in-Element c = rw c.in-Element.is (c.element.ensures c.args.at)

pub returns-in-PutElement : goal.returns-in-PutElement
returns-in-PutElement c = rw c.in-PutElement.is (c.put_element.ensures c.args.at)

pub returns-in-LeaveGiving : goal.returns-in-LeaveGiving
returns-in-LeaveGiving c = rw c.in-LeaveGiving.is (c.leave_giving.ensures c.args.at)
