pub mod OnlyCued
