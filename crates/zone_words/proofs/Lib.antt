pub mod ReverseZones
