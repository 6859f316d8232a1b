-- What a class of the program stands for.
use Rattle.rx_model.specs.Text.{Class, scalar_ranges, byte_ranges}
use Rattle.rx_class.specs.declared.class.Class.{Class as HirClass}
use Rattle.rx_class.specs.declared.class.Class.TheVariants.{Unicode, Bytes}

abbrev pub class_view : HirClass → Class
class_view (Unicode ranges) = scalar_ranges ranges
class_view (Bytes ranges) = byte_ranges ranges
