-- What the fields of an `enum` that was fetched are: each the value of the attribute of its name.
use Rattle.std.specs.Prelude.{◌≡◌, codes}
use Rattle.reg_reader.specs.Views.{Element}
use Rattle.reg_forms.specs.declared.enum_attributes.EnumAttributes.{EnumAttributes}
use Rattle.reg_forms.specs.Attributes.{value_of}

pub record HoldsAttributes (e : Element) (own : EnumAttributes) : Type 0 where
  pub name : own.name ≡ value_of (codes "name") e
  pub value : own.value ≡ value_of (codes "value") e
  pub bitpos : own.bitpos ≡ value_of (codes "bitpos") e
  pub offset : own.offset ≡ value_of (codes "offset") e
  pub alias : own.alias ≡ value_of (codes "alias") e
  pub extends : own.extends ≡ value_of (codes "extends") e
  pub extnumber : own.extnumber ≡ value_of (codes "extnumber") e
  pub dir : own.dir ≡ value_of (codes "dir") e
