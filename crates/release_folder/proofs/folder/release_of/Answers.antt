use Rattle.std.proofs.Common.{◌≡◌, [], refl, rules, arith, length, vec_len, ap}
use Rattle.std.proofs.lemmas.Bool.Decides.{nat_tests}
use Rattle.std.proofs.lemmas.List.{nil_from_length}
use Rattle.release_folder.specs.Names.{AreOfParts}
use Rattle.release_folder.proofs.Parts.{parts_empty, files_empty, of_parts}
use Rattle.release_folder.proofs.folder.release_of.Goals as goal

pub returns-then-is_empty-clause-none : goal.returns-then-is_empty-clause-none
returns-then-is_empty-clause-none c =
    let files = c.add_folders.new.files in
    let len : vec_len files ≡ length files.items = search (rules) in
    let none : files.items ≡ [] = nil_from_length files.items (grind (arith, nat_tests, len, c.is_empty.ensures, c.if-is_empty.true)) in
    let are : AreOfParts c.args.terminology.items c.args.refset.items files.items = of_parts c.args.terminology.items c.sort_by_name.new.files.items c.args.refset.items c.sort_by_folder.new.folders.items files.items (record { permutation = c.sort_by_name.ensures.permutation; in_order = c.sort_by_name.ensures.sorted }) c.sort_by_folder.ensures.permutation c.sort_by_folder.ensures.sorted c.in_ok-add_folders.ensures.ok in (
      (λ refused. parts_empty c.args.terminology.items c.args.refset.items files.items are none),
      (λ empty. refl),
    )

pub returns-clause-none : goal.returns-clause-none
returns-clause-none c =
    let files = c.add_folders.new.files in
    let len : vec_len files ≡ length files.items = search (rules) in
    let are : AreOfParts c.args.terminology.items c.args.refset.items files.items = of_parts c.args.terminology.items c.sort_by_name.new.files.items c.args.refset.items c.sort_by_folder.new.folders.items files.items (record { permutation = c.sort_by_name.ensures.permutation; in_order = c.sort_by_name.ensures.sorted }) c.sort_by_folder.ensures.permutation c.sort_by_folder.ensures.sorted c.in_ok-add_folders.ensures.ok in (
      (λ refused. search (rules)),
      (λ empty. let none : length files.items ≡ 0 = ap length (files_empty c.args.terminology.items c.args.refset.items files.items are empty) in
          let no : ⊥ = grind (arith, nat_tests, len, none, c.is_empty.ensures, c.if-is_empty.false) in absurd no),
    )
