use Rattle.std.proofs.Common.{Some, None, false, refl}
use Rattle.type_rules.specs.Values.{type_of}
use Rattle.code_types.proofs.FormLaws.{field_has}
use Rattle.code_types.proofs.lists.has_field_type.Goals as goal

pub returns-in-Some : goal.returns-in-Some
returns-in-Some c = field_has (type_of c.args.given) c.args.fields.now c.args.place (Some c.in-Some.field.now) c.fits.result c.in-Some.ensures c.fits.ensures

pub returns-in-None : goal.returns-in-None
returns-in-None c = field_has (type_of c.args.given) c.args.fields.now c.args.place None false c.in-None.ensures refl
