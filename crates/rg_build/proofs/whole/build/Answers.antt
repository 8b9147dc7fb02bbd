use Rattle.std.proofs.Common.{◌∙◌, ap, subst}
use Rattle.rg_tree.specs.Rows.Tables.{Tables}
use Rattle.rg_tree.specs.Rows.RowTrees.{program_of}
use Rattle.rg_rules.specs.Acceptance.{Accepted}
use Rattle.rg_names.specs.Book.{Known}
use Rattle.rg_build.proofs.Spelt.{ops-near, bounded, module-spelt, parted-open, parted-made}
use Rattle.rg_build.proofs.whole.build.Goals as goal

pub copy-requires-clause-near : goal.copy-requires-clause-near
copy-requires-clause-near c = ops-near (program_of c.args.accepted.now.program) c.args.code.now c.requires c.book-book.ensures.names

pub put_program-requires : goal.put_program-requires
put_program-requires c =
    parted-open c.book-book.result.program c.in_ok-own.own c.main_manager-manager.result c.new-module.result c.add_classes.new.«module»
    c.add_heads.new.«module» (record {
      manager_is = c.main_manager-manager.ensures;
      first_is = c.new-module.ensures;
      second_is = c.in_ok-add_classes.ensures.is;
      third_is = c.in_ok-add_heads.ensures;
    })

pub returns-clause-is : goal.returns-clause-is
returns-clause-is c =
    parted-made c.book-book.result.program c.args.accepted.now.program c.in_ok-own.own c.main_manager-manager.result c.new-module.result
    c.add_classes.new.«module» c.add_heads.new.«module» c.put_program.new.laying (record {
      manager_is = c.main_manager-manager.ensures;
      first_is = c.new-module.ensures;
      second_is = c.in_ok-add_classes.ensures.is;
      third_is = c.in_ok-add_heads.ensures;
    }) (ap (λ (b : Known). b.program) c.book-book.ensures.is) (c.in_ok-own.ensures.is ∙ c.requires) c.in_ok-put_program.ensures

pub returns-clause-spelt : goal.returns-clause-spelt
returns-clause-spelt c =
    let q = c.args.accepted.now.program in
    module-spelt (program_of q) c.put_program.new.laying.«module» (returns-clause-is c)
    (subst (λ (t : Tables). Accepted (program_of t)) c.program.ensures.program c.program.ensures.accepted)
    (bounded c.book-book.result.program q c.args.code.now c.new-module.result c.add_classes.new.«module» c.class_count.result
    (ap (λ (b : Known). b.program) c.book-book.ensures.is) c.requires c.in_ok-add_classes.ensures.is c.class_count.ensures c.class_count.type_inv
    c.book-book.ensures.names c.in_ok-own.ensures.methods c.in_ok-own.ensures.count c.in_ok-add_classes.ensures.fits c.in_ok-own.ensures.fits)
