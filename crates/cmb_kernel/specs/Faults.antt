-- The names of a kernel's faults.
use Rattle.std.specs.Prelude.{List, codes, ℕ}
use Rattle.cmb_kernel.specs.declared.fault.KernelFault.{KernelFault}
use Rattle.cmb_kernel.specs.declared.fault.KernelFault.TheVariants.{NoSuchPin, NoSuchNet, TooManyEvents, Memory, Failed}

abbrev pub name_of : KernelFault → List ℕ
name_of (NoSuchPin at) = codes "NoSuchPin"
name_of (NoSuchNet at) = codes "NoSuchNet"
name_of TooManyEvents = codes "TooManyEvents"
name_of Memory = codes "Memory"
name_of Failed = codes "Failed"
